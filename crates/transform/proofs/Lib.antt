-- Laws of editing.
pub mod Verdicts
pub mod Soundness
