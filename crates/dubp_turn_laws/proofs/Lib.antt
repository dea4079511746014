pub mod Once
pub mod Texts
pub mod Queries
pub mod Turns
pub mod Memory
pub mod Runs
pub mod Failing
pub mod Apart
