-- Slicing (RULES 6).
pub mod Slicing
pub mod Bytes
pub mod Writing
