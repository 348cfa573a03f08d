-- What the proofs of the two recursions share.
mod Written
pub mod Found
