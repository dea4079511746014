pub mod Counted
pub mod Followed
pub mod OfLeft
pub mod OfSteps
pub mod OfLists
pub mod OfFacts
