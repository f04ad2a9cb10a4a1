-- Character positions (RULES 12, 15.4) and letter counts (RULES 3.7).
pub mod Positions
pub mod Steps
pub mod Counting
