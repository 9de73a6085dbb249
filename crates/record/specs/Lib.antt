pub mod Filling
pub mod Sizes
