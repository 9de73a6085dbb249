pub mod Ends
pub mod Laws
pub mod Pinned
