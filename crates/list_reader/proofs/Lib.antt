pub mod SequenceCopies
pub mod Stretches
pub mod ReadChecks
pub mod ReadOutcomes
