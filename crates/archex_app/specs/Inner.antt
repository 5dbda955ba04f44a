-- What only the code's own contracts cite: no statement that a reader has to believe rests on it.
pub mod Outcome
pub mod Reading
pub mod Checking
pub mod Searched
pub mod Log
