pub mod Steps
pub mod Numbers
pub mod NameLaws
pub mod Distinct
pub mod IndexLaws
pub mod EdgesDiffer
mod WorkedRows
