pub mod Whole
pub mod Outcomes
pub mod Over
pub mod Fields
