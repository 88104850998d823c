pub mod Steps
pub mod EachKind
pub mod Written
pub mod Fields
pub mod Numbers
pub mod Canonicals
pub mod Lawful
pub mod ReadBack
