-- Laws of character positions and letter counts.
pub mod IndexOf
pub mod PairTold
pub mod CharOffsetsList
pub mod LetterCounts
