pub mod Laws
pub mod OfValidity
