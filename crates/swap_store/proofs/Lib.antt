pub mod BlocksLaws
pub mod SlabsLaws
