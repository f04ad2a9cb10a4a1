-- Laws of what the program gathers and reads.
pub mod Gathers
pub mod Started
