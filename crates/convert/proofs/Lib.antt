-- Laws of the conversions.
pub mod Walked
pub mod Leading
pub mod Conversions
pub mod Answered
pub mod Inside
pub mod Itself
pub mod InText
