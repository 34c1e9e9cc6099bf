pub mod Slabs
pub mod Kept
pub mod Rows
