-- Laws of filtering.
pub mod Kept
pub mod Flagged
pub mod Counted
pub mod Sifted
pub mod Spanned
