-- A names file (RULES 14.8): its lines, and the pairs that they are.
pub mod Lines
pub mod Names
pub mod Reading
