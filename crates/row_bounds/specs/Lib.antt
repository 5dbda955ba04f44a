pub mod Residue
pub mod Bounded
pub mod Inner
