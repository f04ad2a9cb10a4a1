-- Laws that belong to no one function.
pub mod Formed
pub mod Table
pub mod Boundaries
pub mod Chars
pub mod Scalar
pub mod Lengths
pub mod CharRanges
pub mod LenUtf8
pub mod LeadLen
