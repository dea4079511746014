pub mod Few
pub mod Stated
pub mod OfSteps
