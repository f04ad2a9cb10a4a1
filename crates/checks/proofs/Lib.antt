-- Laws of the working forms.
pub mod Lengths
