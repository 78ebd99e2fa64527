-- Lemmas.
pub mod Cells
pub mod Laying
pub mod Squares
pub mod Checks
pub mod Covering
pub mod Edges
pub mod Outcomes
pub mod Trees
pub mod Small
pub mod Plays
pub mod Table
