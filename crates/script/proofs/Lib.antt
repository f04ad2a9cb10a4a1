-- Laws of edit scripts.
pub mod Scripts
