-- A string after a text and before it (RULES 8).
pub mod Joining
pub mod Laying
