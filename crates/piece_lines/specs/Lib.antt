-- The program `pieces` (RULES 14.4 to 14.6): its input, and what it prints.
pub mod Input
pub mod Spans
pub mod Printing
pub mod Scanning
