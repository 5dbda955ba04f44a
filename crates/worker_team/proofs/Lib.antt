pub mod Resting
pub mod RoundLaws
pub mod TurnLaws
pub mod SeatLaws
pub mod Ending
pub mod WorkedRows
pub mod Agreeing
