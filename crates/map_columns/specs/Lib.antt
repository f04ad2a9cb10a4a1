-- What a column has for each character of a text.
pub mod Spreading
pub mod Laying
