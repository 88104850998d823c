pub mod Lowest
pub mod Said
