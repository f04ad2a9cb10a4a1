-- Splitting a note (RULES 11).
pub mod Splitting
pub mod PieceSlices
pub mod Writing
