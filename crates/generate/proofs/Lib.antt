pub mod GroupLemmas
pub mod WorkedRows
