pub mod Steps
pub mod Stretches
pub mod Outcomes
pub mod WrittenParts
mod Unwritable
mod Sums
mod Scans
