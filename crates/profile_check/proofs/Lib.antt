-- What the proofs of several functions share, a module to a subject.
mod Passed
mod Pairs
mod Padding
mod Crowding
mod Scan
mod CrowdStep
pub mod Access
