pub mod RightCut
pub mod CutRow
pub mod Reaching
pub mod ChosenCut
