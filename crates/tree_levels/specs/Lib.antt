-- Names for the contracts of this crate.
pub mod Entries
pub mod Laid
pub mod Levels
