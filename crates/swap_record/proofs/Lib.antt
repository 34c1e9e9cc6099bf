pub mod Stored
pub mod Spelled
pub mod Judged
