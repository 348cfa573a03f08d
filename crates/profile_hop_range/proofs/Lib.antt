-- What the proofs of several functions share, a module to a subject.
mod Keys
mod Halving
mod Narrowing
