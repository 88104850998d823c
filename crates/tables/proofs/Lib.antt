pub mod Admitted
pub mod Lookup
