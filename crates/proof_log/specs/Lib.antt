pub mod Field
pub mod Line
pub mod Value
pub mod Fault
pub mod Log
pub mod Inner
