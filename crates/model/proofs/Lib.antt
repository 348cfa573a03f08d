-- Worked examples, computed from the bytes up: each row is what a paper works out by hand.
pub mod WorkedFloats
pub mod WorkedCases
pub mod WorkedExrs
pub mod WorkedNobodys
pub mod WorkedWays
