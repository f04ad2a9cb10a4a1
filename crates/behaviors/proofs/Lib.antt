-- Laws of the behaviours.
pub mod Tests
pub mod Gathered
pub mod Runs
