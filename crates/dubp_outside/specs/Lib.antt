pub mod Causes
pub mod Memory
pub mod Parts
pub mod Streams
