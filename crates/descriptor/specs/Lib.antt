pub mod Device
pub mod Writing
