-- What the proofs of several functions share, a module to a subject.
mod Areas
mod Neighbours
mod Runs
pub mod Turned
