-- Converting a range of one text to the other (RULES 4).
pub mod Converting
pub mod Blocks
pub mod Leading
pub mod Inside
