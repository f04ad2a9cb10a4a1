-- Laws of the working forms.
pub mod Monotone
pub mod Spanning
pub mod Zeros
