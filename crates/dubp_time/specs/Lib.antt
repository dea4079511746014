pub mod Contents
pub mod Median
pub mod OfAtoms
