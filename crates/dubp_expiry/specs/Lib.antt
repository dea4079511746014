pub mod DueOrder
pub mod Entries
