pub mod Messages
pub mod Faulty
