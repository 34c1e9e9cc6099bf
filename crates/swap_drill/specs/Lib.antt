pub mod Drill
pub mod Laws
pub mod Rows
pub mod Steps
pub mod Summary
pub mod Text
