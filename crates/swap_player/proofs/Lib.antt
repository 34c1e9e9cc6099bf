pub mod Turns
pub mod Pumping
pub mod Well
