-- Code points judged and laid down.
pub mod Laying
