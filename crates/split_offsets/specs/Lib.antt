-- Split offsets (RULES 13).
pub mod SplitOffsets
pub mod Steps
