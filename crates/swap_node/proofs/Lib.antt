pub mod Puts
pub mod Rows
pub mod Sending
pub mod Telling
