-- What the proofs of several functions share, a module to a subject.
pub mod Placing
pub mod Held
pub mod Legs
pub mod Nodes
mod Filling
pub mod Blocks
