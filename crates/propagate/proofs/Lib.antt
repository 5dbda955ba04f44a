pub mod OneClosure
pub mod WayLaws
pub mod Promise
