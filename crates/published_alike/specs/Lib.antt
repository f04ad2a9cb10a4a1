-- Whether two notes publish the same (RULES 15).
pub mod Alike
pub mod Walk
