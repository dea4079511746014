pub mod Sections
pub mod Sets
pub mod Told
pub mod Walk
pub mod OfLists
