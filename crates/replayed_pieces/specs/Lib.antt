-- What the replay of a stored answer says: whether a case stores what a call told, and the call itself.
pub mod Stored
pub mod Replaying
