pub mod Worked
pub mod Onward
