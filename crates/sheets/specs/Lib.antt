pub mod Limits
pub mod Sheets
pub mod Listed
