-- Laws of the working forms.
pub mod MisalignedBits
pub mod IsStarting
