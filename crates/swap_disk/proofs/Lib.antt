pub mod Numbers
pub mod FlightMoves
pub mod DriveMoves
