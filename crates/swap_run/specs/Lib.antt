pub mod Run
pub mod Clause
pub mod Rows
pub mod Printing
pub mod Blocks
pub mod Checks
pub mod Judging
