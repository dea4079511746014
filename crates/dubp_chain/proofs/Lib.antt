pub mod OfAtoms
pub mod OfBlock
