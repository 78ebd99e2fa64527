-- Lemmas.
pub mod Places
pub mod Risings
pub mod Meanings
pub mod Numbers
pub mod Compared
pub mod Chains
pub mod Windows
pub mod Growing
pub mod Linking
pub mod Starting
pub mod Givens
