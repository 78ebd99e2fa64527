-- The theory of games: trees of options, play, order, test numbers, sums, canonical forms, the count.
pub mod Game
pub mod Play
pub mod Order
pub mod Numbers
pub mod Sum
pub mod Canonical
pub mod Count
pub mod Examples
