-- Match lists (RULES 9).
pub mod Entries
pub mod Places
pub mod Encoding
pub mod Placed
