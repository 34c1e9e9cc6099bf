pub mod Rounds
pub mod World
pub mod Laws
pub mod Since
pub mod Rows
pub mod Answered
pub mod Runs
pub mod Failures
