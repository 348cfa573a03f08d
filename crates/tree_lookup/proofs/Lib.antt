-- What the proof of the look-up stands on, a module to a subject.
mod Walked
mod Looks
mod Narrowed
pub mod Parts
mod Worked
