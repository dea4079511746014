pub mod Gathered
pub mod Left
pub mod Laws
pub mod Next
pub mod OfSteps
pub mod OfFacts
pub mod OfValidity
pub mod OfChain
