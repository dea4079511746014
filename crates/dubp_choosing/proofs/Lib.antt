pub mod Failures
pub mod Offers
pub mod Tries
pub mod Turns
pub mod Resolving
pub mod Offering
pub mod Seen
pub mod Waiting
