pub mod Pieces
pub mod Steps
pub mod Outcomes
pub mod Forms
