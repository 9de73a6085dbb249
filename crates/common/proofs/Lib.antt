pub mod Laws
pub mod Lists
pub mod Once
pub mod Pending
pub mod Pinned
pub mod Refusals
