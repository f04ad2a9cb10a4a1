-- Laws that belong to no one function.
pub mod LittleEndian
pub mod Decimal
pub mod Entries
