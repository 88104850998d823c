pub mod Forms
pub mod Registers
pub mod Filings
pub mod Rows
