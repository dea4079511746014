mod Handed
pub mod Givens
pub mod Items
