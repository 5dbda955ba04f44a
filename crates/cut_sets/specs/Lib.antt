pub mod CutSets
pub mod Inner
