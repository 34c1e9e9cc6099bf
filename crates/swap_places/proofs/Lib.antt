pub mod Lines
pub mod Chains
pub mod Moves
