-- The working form of the starting note's columns.
pub mod ContinuationRun
