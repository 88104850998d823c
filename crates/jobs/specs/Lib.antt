pub mod Views
pub mod Changes
