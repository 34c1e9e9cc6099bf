pub mod Hearing
pub mod Steps
pub mod Serving
pub mod Slots
