pub mod Lender
pub mod Outbox
pub mod Table
pub mod Calls
pub mod Letters
pub mod Core
pub mod Rows
