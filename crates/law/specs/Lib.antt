pub mod States
pub mod Steps
pub mod Histories
pub mod Laws
pub mod Texts
