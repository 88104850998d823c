mod Rows
mod Numbered
pub mod Stays
