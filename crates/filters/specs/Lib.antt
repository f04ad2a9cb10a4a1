-- Filtering (RULES 8).
pub mod Flags
