-- What only the code's own contracts cite: no statement that a reader has to believe rests on it.
pub mod Codes
pub mod Nodes
pub mod Finding
pub mod Judging
pub mod Template
pub mod Change
