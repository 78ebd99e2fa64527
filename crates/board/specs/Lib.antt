-- The definitions that the contracts of this crate speak of.
pub mod Grid
pub mod Moves
pub mod Covering
pub mod Ways
pub mod Rules
pub mod Tree
pub mod Play
pub mod Refusals
pub mod Reading
pub mod Values
pub mod Known
