pub mod Route
pub mod Checks
pub mod Answers
