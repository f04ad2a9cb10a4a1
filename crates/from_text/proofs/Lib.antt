-- Laws of the starting note's columns as they are written.
pub mod CharRanges
pub mod Started
