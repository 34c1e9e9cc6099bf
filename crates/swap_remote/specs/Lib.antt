pub mod Remote
pub mod Kept
pub mod lemmas
