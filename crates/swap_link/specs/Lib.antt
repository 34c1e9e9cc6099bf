pub mod Lane
pub mod Channel
pub mod Fits
pub mod Keeping
pub mod Harbor
pub mod Whole
pub mod lemmas
