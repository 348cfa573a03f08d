-- Names for the contracts of this crate.
pub mod Layout
pub mod Domains
