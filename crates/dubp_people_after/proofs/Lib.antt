pub mod Between
pub mod Counting
pub mod Enough
pub mod Every
pub mod Identities
pub mod Lists
pub mod Live
pub mod OfSteps
