-- What the proofs of several functions share, a module to a subject.
pub mod Known
pub mod LevelIs
pub mod Sequences
pub mod Filled
pub mod Next
pub mod Filling
