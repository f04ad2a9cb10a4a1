-- Laws of blanking.
pub mod BlankedSize
pub mod Blanks
pub mod Redacting
pub mod Resized
