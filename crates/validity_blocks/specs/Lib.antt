-- The fast form of well-formed UTF-8: a byte and the three before it.
pub mod Extremes
pub mod Valid
