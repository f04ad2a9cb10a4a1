-- Laws of the counts.
pub mod Counts
pub mod Lows
