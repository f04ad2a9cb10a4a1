-- Laws of characters that are kept.
pub mod Chosen
pub mod Whole
pub mod Chars
