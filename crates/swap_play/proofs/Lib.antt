pub mod Calling
pub mod Logging
pub mod Paging
pub mod Walking
pub mod Connecting
pub mod Settling
pub mod Running
pub mod Seating
pub mod Operating
pub mod Idle
pub mod Ending
mod Ticketing
