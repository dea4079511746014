pub mod OfKept
pub mod OfLocal
pub mod OfValidity
