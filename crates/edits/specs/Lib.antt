-- Whole-note edits (RULES 8).
pub mod Characters
pub mod Whole
pub mod Plain
pub mod Laying
