pub mod Facts
pub mod OfValidity
