pub mod Filled
pub mod Drafts
pub mod Forged
pub mod OfPool
