pub mod Runs
pub mod Memory
