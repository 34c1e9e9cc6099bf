pub mod Bytes
pub mod Fields
pub mod Buffers
pub mod Unique
pub mod Judging
pub mod Answering
pub mod Streaming
