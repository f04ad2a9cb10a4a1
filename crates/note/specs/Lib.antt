-- The note and the refusals (RULES 1 and 2).
pub mod Notes
pub mod Refusals
pub mod Faults
pub mod Starting
pub mod Rank
