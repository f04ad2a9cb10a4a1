-- A text that is ASCII, and one whose bytes are judged each with the three before it.
pub mod Texts
pub mod ValidAt
