-- Laws of replaying.
pub mod Replaying
