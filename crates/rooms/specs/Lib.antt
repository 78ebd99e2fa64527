-- The definitions that the contracts of this crate speak of.
pub mod Few
pub mod Walks
pub mod Rooms
pub mod Games
pub mod Growth
pub mod Values
pub mod Laid
pub mod Held
pub mod Splits
