-- Finding a literal (RULES 9).
pub mod Matching
pub mod Finding
pub mod Searching
