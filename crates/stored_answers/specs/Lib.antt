-- What the contracts here are said with: how much of a buffer was filled, how a file is laid out, how a case is packed,
-- and columns by their differences; and what a case lends.
pub mod Counts
pub mod Framing
pub mod Packing
pub mod Differences
pub mod Lending
pub mod Calls
