-- Blanking a literal in the starting note of a text, laid straight from the text.
pub mod Keeping
pub mod Blanks
