-- The worked notes of the rules.
pub mod Worked
