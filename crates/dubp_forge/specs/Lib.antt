pub mod Forgings
pub mod Steps
pub mod OfLedger
pub mod Runs
pub mod Telling
