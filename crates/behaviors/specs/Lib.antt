-- The behaviours of splitting (RULES 11).
pub mod Splits
pub mod Joining
pub mod Runs
