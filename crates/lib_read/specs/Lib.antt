pub mod Fault
pub mod Tree
pub mod Components
pub mod Schema
pub mod Faults
pub mod Rows
pub mod LibraryOf
pub mod Inner
