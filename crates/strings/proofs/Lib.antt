pub mod Filled
pub mod Laws
pub mod Lengths
pub mod Pinned
