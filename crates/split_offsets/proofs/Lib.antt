-- Laws of split offsets.
pub mod Converting
pub mod Pairs
pub mod Judged
pub mod PieceOffsets
pub mod Plain
