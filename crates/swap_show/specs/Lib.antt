pub mod Shown
pub mod Clause
pub mod Printing
