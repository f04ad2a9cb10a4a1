-- Laws of lowercase.
pub mod Images
pub mod Bytes
pub mod Pairs
pub mod Running
pub mod Fixing
pub mod Grown
pub mod Lowering
pub mod Calls
pub mod Twice
