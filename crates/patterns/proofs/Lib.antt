pub mod Sums
pub mod Judged
