-- Lemmas.
pub mod Planks
pub mod Standing
