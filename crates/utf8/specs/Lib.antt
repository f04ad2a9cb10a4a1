-- Characters: what the Standard calls well-formed UTF-8, and what RULES 3 says of characters.
pub mod Table
pub mod Formed
pub mod Lengths
pub mod CharRanges
pub mod Scalar
pub mod Encoding
pub mod Chars
pub mod Counting
