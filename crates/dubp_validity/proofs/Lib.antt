pub mod Passed
pub mod Members
