pub mod Generated
pub mod Making
pub mod OfLedger
pub mod Spendable
