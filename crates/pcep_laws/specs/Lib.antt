pub mod Table
pub mod Firsts
pub mod Metrics
pub mod Left
