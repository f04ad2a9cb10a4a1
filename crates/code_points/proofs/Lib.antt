-- Laws of code points.
pub mod Encoded
pub mod Judging
pub mod Blocks
