pub mod Faults
pub mod Named
pub mod Counts
pub mod Sure
pub mod Told
pub mod Inner
