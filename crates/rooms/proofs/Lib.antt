-- Lemmas.
pub mod Holding
pub mod Lists
pub mod Reach
pub mod Through
pub mod Beside
pub mod Growing
pub mod Walking
pub mod Finding
pub mod Answering
pub mod After
