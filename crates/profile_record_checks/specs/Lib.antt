-- Names for the contracts of this crate.
pub mod Misplaced
pub mod Run
