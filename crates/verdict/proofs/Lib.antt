-- Lemmas.
pub mod Answers
pub mod Losing
pub mod Rounds
pub mod Smaller
pub mod Whole
pub mod Worthy
