mod Includes
pub mod Hits
pub mod States
mod Steps
