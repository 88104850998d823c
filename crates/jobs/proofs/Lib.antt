pub mod Summing
pub mod Moved
pub mod Performed
pub mod Opened
