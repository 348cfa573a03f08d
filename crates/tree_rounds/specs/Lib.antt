pub mod ChosenRound
pub mod Kept
