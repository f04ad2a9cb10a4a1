-- Characters that are kept.
pub mod Chosen
pub mod Counting
