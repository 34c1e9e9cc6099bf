pub mod Acts
pub mod Works
pub mod Boards
pub mod Laws
