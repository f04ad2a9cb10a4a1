-- The call that writes the note of a fresh text; the note itself is defined in `note`.
pub mod FromText
