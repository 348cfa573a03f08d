-- Names for the contracts of this crate.
pub mod LookUp
