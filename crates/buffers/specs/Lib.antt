-- What the contracts of `buffers`, and of every crate that writes a passed buffer, are said with.
pub mod Splice
pub mod Over
pub mod Every
pub mod Columns
pub mod Same
pub mod Keeping
