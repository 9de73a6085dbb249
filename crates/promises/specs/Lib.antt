pub mod Addresses
pub mod Counts
pub mod Fault
pub mod History
pub mod Transfers
