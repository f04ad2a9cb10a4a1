-- What the replay of a call that publishes a note says.
pub mod Replaying
