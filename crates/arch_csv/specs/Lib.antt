pub mod Records
pub mod ArchitectureOf
pub mod Text
pub mod Inner
