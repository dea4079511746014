pub mod Verdicts
pub mod OfAtoms
