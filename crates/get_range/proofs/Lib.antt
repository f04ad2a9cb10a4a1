-- Laws of reading.
pub mod Got
pub mod Parts
