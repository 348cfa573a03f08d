pub mod LengthLaws
pub mod FormLaws
