-- Code points and their bytes.
pub mod Codes
pub mod Laying
