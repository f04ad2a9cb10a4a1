-- Laws of blanking in a note, and of chains.
pub mod MatchCount
pub mod Redacting
pub mod Moved
pub mod Chain
