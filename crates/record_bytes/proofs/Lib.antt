pub mod Inverse
pub mod Lengths
pub mod Numbers
pub mod Pinned
pub mod Walks
