pub mod Empty
pub mod Entries
pub mod KeyOrder
pub mod Members
pub mod Numbered
pub mod Putting
pub mod Uids
pub mod Walked
