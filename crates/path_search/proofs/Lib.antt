-- What the proofs of several functions share, a module to a subject.
mod Starts
mod Searching
