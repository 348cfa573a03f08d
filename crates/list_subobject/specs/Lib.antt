pub mod Items
pub mod Types
