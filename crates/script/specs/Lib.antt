-- Edit scripts (RULES 7).
pub mod Scripts
