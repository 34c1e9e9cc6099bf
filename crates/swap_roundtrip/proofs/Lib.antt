mod Shapes
mod Entries
mod Plain
mod Owed
mod Lines
pub mod Runs
