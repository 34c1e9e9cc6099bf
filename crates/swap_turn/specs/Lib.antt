pub mod Turns
pub mod PassView
pub mod Holding
pub mod Laws
