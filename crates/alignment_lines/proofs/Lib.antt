-- Laws of runs and of lines.
pub mod Runs
pub mod Lines
