pub mod Heads
pub mod Queries
pub mod Records
