pub mod Growing
pub mod Matches
