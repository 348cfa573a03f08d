mod SameBytes
pub mod Fields
pub mod Layouts
pub mod AcceptedHops
