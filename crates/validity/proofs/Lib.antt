-- Laws that belong to no one function.
pub mod Wanted
pub mod ValidAt
pub mod Ascii
