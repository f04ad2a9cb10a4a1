-- Working forms of the conditions of a passed note; the conditions themselves are defined in `note`.
pub mod Lengths
