-- Where pieces start and end, in columns.
pub mod Packing
