pub mod VerdictParts
