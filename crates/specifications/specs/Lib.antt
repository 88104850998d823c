pub mod Rows
pub mod Fronted
pub mod Steps
pub mod Listed
