-- What the contracts of `numbers` are said with.
pub mod LittleEndian
pub mod Decimal
pub mod Entries
