pub mod Laws
pub mod Pieces
pub mod Pinned
pub mod Told
