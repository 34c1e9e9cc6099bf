pub mod Commands
pub mod Lend
pub mod LendRows
pub mod Lendable
pub mod Play
pub mod PlayRows
