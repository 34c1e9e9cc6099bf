pub mod Change
pub mod RowReads
pub mod Moves
pub mod Held
pub mod Lost
pub mod Keeps
