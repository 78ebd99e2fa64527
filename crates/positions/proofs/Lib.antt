-- Lemmas.
pub mod Bits
pub mod Choices
pub mod Steps
pub mod Making
pub mod Played
pub mod Growth
pub mod Forming
pub mod Turns
pub mod Law
