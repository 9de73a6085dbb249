pub mod Codes
pub mod Entries
pub mod Layout
pub mod Shape
