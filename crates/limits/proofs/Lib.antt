pub mod Good
pub mod Laws
pub mod Pinned
