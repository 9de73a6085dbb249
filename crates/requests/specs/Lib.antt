pub mod Codes
pub mod Requests
pub mod Sizes
