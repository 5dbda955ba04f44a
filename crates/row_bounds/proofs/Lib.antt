pub mod SpendLaws
pub mod AscentLaws
