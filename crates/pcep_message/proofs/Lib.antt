pub mod Checks
pub mod Walked
pub mod Frames
pub mod Placed
