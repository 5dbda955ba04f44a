pub mod Sums
pub mod Greatest
