-- Lists of pairs, and how often their words are in a text.
pub mod Words
pub mod Judging
pub mod Counts
