pub mod Materials
pub mod Codes
pub mod Limits
