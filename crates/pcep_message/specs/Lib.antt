pub mod Known
pub mod Framed
pub mod Walked
pub mod Extents
