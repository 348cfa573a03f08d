-- What the proofs of several functions share, a module to a subject.
pub mod Codes
pub mod Places
pub mod Hops
