-- Replacing by edits (RULES 16).
pub mod Road
pub mod ByEdits
pub mod Stepping
