-- Laws of invisible characters.
pub mod Ranges
pub mod Characters
