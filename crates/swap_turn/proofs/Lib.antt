pub mod Earlier
pub mod Sums
pub mod Histories
pub mod Steps
pub mod Seats
pub mod Dealing
pub mod Ending
pub mod Growing
