pub mod Dealings
pub mod Addresses
pub mod Making
pub mod MemLinks
pub mod AddressRows
