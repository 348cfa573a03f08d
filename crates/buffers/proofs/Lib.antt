-- What the proofs of several functions share, here and in the crates that write buffers.
pub mod Places
pub mod Copies
pub mod Loops
