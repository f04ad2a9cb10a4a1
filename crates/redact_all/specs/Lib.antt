-- Blanking several literals in a note.
pub mod Steps
pub mod RedactAll
pub mod Stepping
