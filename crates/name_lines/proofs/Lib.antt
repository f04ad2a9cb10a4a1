-- Laws of names files.
pub mod Lines
pub mod FileLines
pub mod Tabs
pub mod Judging
pub mod Writing
pub mod Pairs
