-- What the proofs of several functions share, and the path search with them.
pub mod Source
mod AllExrs
mod Settling
