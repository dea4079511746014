pub mod Spelling
pub mod Reading
pub mod Ranges
pub mod OfAtoms
