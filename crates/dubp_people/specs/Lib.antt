pub mod Applied
pub mod Exclusion
pub mod OfLeft
pub mod OfRegistry
pub mod OfSteps
