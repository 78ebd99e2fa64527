-- The definitions that the contracts of this crate speak of.
pub mod Held
pub mod Compares
pub mod Reducing
pub mod Answers
