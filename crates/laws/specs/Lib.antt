-- Definitions that contracts cite beside those of `model`: forms in which code meets what `model` says, a module to a subject. The laws show that they are the same.
pub mod Sorted
pub mod Exrs
pub mod Stops
pub mod Lists
pub mod Left
pub mod Reach
pub mod Descent
