pub mod Callers
pub mod Connects
pub mod Settles
pub mod Running
pub mod Playing
