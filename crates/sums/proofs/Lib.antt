-- Lemmas.
pub mod Holding
pub mod Wider
pub mod Gathering
pub mod Summing
pub mod Marking
pub mod Adding
pub mod Meeting
pub mod Lining
pub mod Counted
pub mod Rounds
pub mod Standing
