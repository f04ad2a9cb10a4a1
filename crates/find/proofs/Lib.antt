-- Laws of matches and of the search for them.
pub mod Occurs
pub mod FirstFrom
pub mod Candidates
pub mod MatchesFrom
pub mod FoundPlaces
pub mod Found
