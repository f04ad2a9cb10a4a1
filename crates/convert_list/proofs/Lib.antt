-- Laws of the answers of a list of ranges.
pub mod TwoReads
pub mod Answering
pub mod ConvertedList
