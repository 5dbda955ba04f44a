pub mod Parts
pub mod Pool
pub mod Tickets
pub mod Taking
pub mod Holding
pub mod Topic
pub mod Alike
pub mod Inner
