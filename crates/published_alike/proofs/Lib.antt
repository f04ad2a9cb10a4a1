-- Laws of the comparison.
pub mod Walk
pub mod Alike
