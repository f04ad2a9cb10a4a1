-- The alignments of a text as lines (RULES 14.1).
pub mod Lines
