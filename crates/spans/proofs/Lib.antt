-- Laws of the columns of pieces.
pub mod Packing
pub mod Placing
