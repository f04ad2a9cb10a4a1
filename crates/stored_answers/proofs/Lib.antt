-- Laws that belong to no one function.
pub mod Splice
pub mod Framing
pub mod Packing
pub mod Differences
