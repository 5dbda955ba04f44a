pub mod Phase
pub mod Feeding
pub mod Breaking
pub mod Refused
pub mod Text
pub mod Reading
pub mod Yes
pub mod Inner
