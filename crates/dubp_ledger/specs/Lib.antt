pub mod States
pub mod Traces
pub mod Written
pub mod Filling
pub mod OfForging
pub mod OfKept
pub mod OfLocal
pub mod OfAnswers
