pub mod OfKept
pub mod OfLocal
pub mod OfValidity
pub mod OfFacts
pub mod OfAnswers
