pub mod Acts
pub mod Working
pub mod Telling
pub mod Boards
pub mod Pace
