-- Laws of `append` and `prepend`.
pub mod Adding
pub mod Closed
pub mod Joined
