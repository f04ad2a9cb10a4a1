-- Blanking a literal in a fresh text.
pub mod Redacting
pub mod Publishing
pub mod Blanks
