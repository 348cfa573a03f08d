pub mod Runs
pub mod Objects
pub mod Steps
pub mod Message
pub mod Outcomes
pub mod Routes
