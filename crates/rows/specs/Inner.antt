-- What only the code's own contracts cite: no statement that a reader has to believe rests on it.
pub mod Ends
pub mod Quiet
pub mod Room
pub mod Sums
