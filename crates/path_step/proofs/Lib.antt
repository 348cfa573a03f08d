-- What the proofs of several functions share, a module to a subject.
pub mod Turns
pub mod Places
pub mod Shortest
