-- Laws of offsets in characters.
pub mod Numbered
pub mod FirstBytes
pub mod Pairs
