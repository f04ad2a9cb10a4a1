-- Laws of stretches, and of what is laid on from them.
pub mod Keeping
pub mod Blanks
pub mod Front
