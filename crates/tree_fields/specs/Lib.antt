pub mod TreeResult
pub mod Fields
