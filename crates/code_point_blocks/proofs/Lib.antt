-- Laws of code points and their bytes.
pub mod Parts
pub mod Codes
pub mod Packing
pub mod Texts
