pub mod Line
pub mod Links
