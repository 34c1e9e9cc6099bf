pub mod Picks
pub mod Asked
pub mod Slots
pub mod Least
