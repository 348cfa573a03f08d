pub mod OnePass
pub mod Exclusions
pub mod Carried
pub mod Places
