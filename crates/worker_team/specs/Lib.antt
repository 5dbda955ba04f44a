pub mod Solved
pub mod Inner
