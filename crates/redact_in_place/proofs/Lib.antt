-- Laws of what is held in place.
pub mod Holding
