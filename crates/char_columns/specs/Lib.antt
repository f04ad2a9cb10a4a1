-- Offsets in characters (RULES 13.3).
pub mod Numbers
pub mod Steps
