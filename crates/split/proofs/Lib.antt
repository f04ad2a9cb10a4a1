-- Laws of splitting.
pub mod Joined
pub mod Cuts
pub mod Judged
pub mod PieceSlices
