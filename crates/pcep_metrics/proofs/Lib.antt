pub mod Between
pub mod Judging
pub mod Putting
