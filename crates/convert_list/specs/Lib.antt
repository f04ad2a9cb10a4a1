-- Converting a list of ranges over one note (RULES 15.3).
pub mod ConvertList
pub mod TwoReads
