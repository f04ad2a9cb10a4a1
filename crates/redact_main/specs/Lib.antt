-- What the program is asked for, gathers and tells.
pub mod Asked
pub mod Gathering
pub mod Telling
