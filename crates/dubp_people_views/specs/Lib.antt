pub mod Views
pub mod Certifications
pub mod Nearness
pub mod OfFacts
pub mod Counting
pub mod OfLeft
pub mod OfRegistry
pub mod OfSteps
