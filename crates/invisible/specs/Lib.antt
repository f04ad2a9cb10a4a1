-- The characters of a text that cannot be seen (RULES 14.10).
pub mod Ranges
pub mod Characters
