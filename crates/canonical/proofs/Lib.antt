-- Lemmas.
pub mod Withins
pub mod Inserting
pub mod Passing
pub mod Thinning
pub mod Reduces
pub mod Placing
