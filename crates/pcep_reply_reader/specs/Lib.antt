pub mod CheckedPcrep
pub mod Reading
