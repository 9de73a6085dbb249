pub mod Codes
pub mod Sizes
pub mod Stages
