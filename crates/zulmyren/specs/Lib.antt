-- What the exported calls say, in plain numbers.
pub mod Calls
pub mod Edits
pub mod Promised
pub mod Exported
