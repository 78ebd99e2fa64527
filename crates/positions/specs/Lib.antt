-- The definitions that the contracts of this crate speak of.
pub mod Sets
pub mod Reach
pub mod Growing
pub mod Memory
pub mod Values
pub mod Forming
pub mod Answers
