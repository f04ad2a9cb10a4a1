-- Editing (RULES 7).
pub mod Transforming
