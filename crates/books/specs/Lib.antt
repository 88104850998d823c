pub mod Findings
pub mod Meanings
pub mod Verdicts
pub mod Numbered
