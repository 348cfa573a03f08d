pub mod Steps
pub mod Addresses
