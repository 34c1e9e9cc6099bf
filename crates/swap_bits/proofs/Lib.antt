pub mod Numbers
pub mod InWords
pub mod Ranges
pub mod Counts
