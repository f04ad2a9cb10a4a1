-- Lowercase for Latin notes (RULES 8).
pub mod Images
pub mod Lowering
pub mod Laying
