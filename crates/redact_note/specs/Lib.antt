-- Blanking a literal in a note, and what can be told where several are blanked one after the other.
pub mod Redacting
pub mod Chain
pub mod Blanks
