-- Laws of an edit's steps.
pub mod Positions
pub mod Measured
pub mod Given
