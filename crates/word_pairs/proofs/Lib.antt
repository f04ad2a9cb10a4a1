-- Laws of lists of pairs.
pub mod Words
pub mod Judging
pub mod Counts
