pub mod FreeSlots
pub mod Steps
pub mod Owned
pub mod Runs
pub mod Opened
pub mod Reach
pub mod Limits
pub mod Live
