pub mod CubeOf
pub mod Says
pub mod Inner
