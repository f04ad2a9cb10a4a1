-- Laws of whole-note edits.
pub mod Characters
pub mod Mapped
pub mod Shares
pub mod Head
pub mod Sifted
pub mod Inputs
pub mod Made
pub mod Emptied
