-- Laws of the second road.
pub mod Parts
pub mod PlaceEdit
pub mod Columns
pub mod Backward
pub mod Onward
pub mod Roads
pub mod Calls
pub mod Laying
pub mod Holding
pub mod Travelling
