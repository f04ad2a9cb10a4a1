-- The steps of an edit (RULES 7).
pub mod Edits
pub mod Walking
pub mod Laying
