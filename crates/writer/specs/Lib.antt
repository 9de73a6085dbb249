pub mod Appending
pub mod Descriptors
