-- What the program's reader is held to.
pub mod Reading
