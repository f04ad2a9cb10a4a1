-- Reading (RULES 5).
pub mod Reading
