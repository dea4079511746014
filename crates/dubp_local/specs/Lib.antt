pub mod Local
pub mod Directions
pub mod Asking
pub mod Checking
pub mod Parts
