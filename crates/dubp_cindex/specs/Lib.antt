pub mod Changes
pub mod Coding
pub mod Following
pub mod Orders
pub mod Putting
pub mod Rows
