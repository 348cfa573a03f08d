pub mod Query
pub mod CheckedRequest
pub mod Bits
