pub mod Afters
pub mod Writes
pub mod Turns
pub mod Tallies
pub mod Counts
pub mod UnderWay
pub mod Opened
pub mod Inputs
