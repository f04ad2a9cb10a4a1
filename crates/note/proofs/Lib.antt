-- Laws of the note's definitions.
pub mod FirstMet
pub mod Sound
pub mod BeforeEnd
pub mod Faults
pub mod Starting
pub mod Stretch
pub mod Numbers
pub mod LengthFaults
pub mod Order
