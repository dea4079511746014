pub mod Fronts
pub mod OfLedger
pub mod OfReplay
pub mod Tallies
