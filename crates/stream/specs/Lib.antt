pub mod Stream
pub mod Trace
