-- Laws that belong to no one function, each file by the definition that it speaks of.
pub mod Cases
pub mod Booleans
pub mod Splice
pub mod Over
pub mod Every
pub mod Columns
pub mod Same
