pub mod Weights
pub mod Events
pub mod Ways
pub mod Blocks
pub mod Whole
mod Numbers
