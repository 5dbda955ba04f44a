pub mod CountLaws
pub mod KeptLaws
pub mod KeptSteps
pub mod NamedLaws
pub mod SureLaws
pub mod WorkedRows
