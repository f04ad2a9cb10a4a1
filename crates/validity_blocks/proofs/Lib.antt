-- Laws that belong to no one function.
pub mod Largest
pub mod LeastLead
pub mod Invalid
pub mod Valid
