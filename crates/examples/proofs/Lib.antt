-- The worked notes, computed.
pub mod Worked
