pub mod Held
pub mod Lines
pub mod Taking
pub mod Counting
pub mod Ends
pub mod OfSteps
pub mod Writing
