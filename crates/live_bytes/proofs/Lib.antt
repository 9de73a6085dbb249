pub mod Codes
pub mod Inverse
pub mod Lengths
pub mod Pinned
pub mod Spelt
