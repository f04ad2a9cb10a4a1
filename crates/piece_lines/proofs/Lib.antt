-- Laws that belong to no one function.
pub mod Runs
pub mod Scanning
pub mod Placed
pub mod Answering
pub mod Fitting
pub mod Fresh
pub mod Judging
pub mod Written
pub mod Cuts
pub mod Bounded
