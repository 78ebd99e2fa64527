-- The definitions that the contracts of this crate speak of.
pub mod Answers
