-- Names for the contracts of this crate, and of those that lend or write buffers.
pub mod Capacity
pub mod Placed
