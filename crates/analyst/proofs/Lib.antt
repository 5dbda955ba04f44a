pub mod FirstCut
pub mod ChosenSteps
pub mod KindLaws
pub mod Verdicts
