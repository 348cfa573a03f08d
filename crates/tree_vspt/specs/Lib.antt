pub mod Laid
pub mod Leg
pub mod Tree
