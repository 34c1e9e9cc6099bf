pub mod Lending
pub mod Live
