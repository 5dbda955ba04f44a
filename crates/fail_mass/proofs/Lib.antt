pub mod CaseLemmas
pub mod PartingLemmas
pub mod StepLemmas
pub mod EnclosingLemmas
pub mod LoopLemmas
pub mod NetworkLemmas
pub mod OffPaths
pub mod WorkedRows
