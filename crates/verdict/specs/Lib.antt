-- The definitions that the contracts of this crate speak of.
pub mod Choosing
pub mod Judging
pub mod Limits
pub mod Lines
pub mod Trying
pub mod Worths
