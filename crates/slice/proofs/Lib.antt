-- Laws of slicing.
pub mod Lowered
pub mod Sides
pub mod Cutting
pub mod Judged
pub mod SliceNotes
pub mod SliceBytes
