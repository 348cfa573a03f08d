pub mod Queries
pub mod Requests
pub mod Verdicts
