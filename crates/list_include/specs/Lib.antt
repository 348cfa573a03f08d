pub mod NamedDomain
pub mod Reading
