pub mod Step
pub mod Taken
