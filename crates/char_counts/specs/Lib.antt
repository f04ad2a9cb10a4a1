-- How many characters have begun up to each byte of a text, kept for many look-ups.
pub mod Counts
pub mod Lows
