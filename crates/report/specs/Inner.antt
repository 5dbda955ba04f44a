-- What only the code's own contracts cite: no statement that a reader has to believe rests on it.
pub mod Answers
