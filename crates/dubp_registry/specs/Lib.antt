pub mod OfLeft
pub mod OfSteps
pub mod OfFacts
pub mod OfValidity
