-- Laws of blanking several literals.
pub mod OneStep
pub mod Stepping
pub mod Telling
pub mod Entry
pub mod Chained
pub mod Unreadable
pub mod Reported
