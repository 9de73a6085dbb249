pub mod Records
pub mod Sizes
