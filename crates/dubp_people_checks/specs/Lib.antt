pub mod RuleParts
pub mod Asking
pub mod OfLeft
