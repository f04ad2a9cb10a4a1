-- A literal blanked in place.
pub mod InPlace
