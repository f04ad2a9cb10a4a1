-- Laws of match lists.
pub mod Entries
pub mod Places
pub mod Encoding
pub mod Placed
