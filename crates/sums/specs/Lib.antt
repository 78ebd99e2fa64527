-- The definitions that the contracts of this crate speak of.
pub mod Pairs
pub mod Sums
pub mod Steps
pub mod Reaching
pub mod Pairing
pub mod Rows
pub mod Counting
pub mod Likeness
pub mod Held
pub mod Values
