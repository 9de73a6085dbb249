pub mod Adding
pub mod Configuration
