pub mod Silent
pub mod Swapping
pub mod Lying
pub mod Laws
pub mod Rows
pub mod lemmas
