-- The definitions that the contracts of this crate speak of.
pub mod Rows
pub mod Meaning
pub mod Soundness
pub mod Links
pub mod Growth
pub mod Laws
pub mod Held
pub mod Values
