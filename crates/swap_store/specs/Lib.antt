pub mod Blocks
pub mod Slabs
