-- Names for the contracts of this crate.
pub mod Ranges
pub mod Search
