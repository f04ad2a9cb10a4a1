-- Laws of columns by characters.
pub mod Chars
pub mod Bytes
pub mod Spread
pub mod Alike
