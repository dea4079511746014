pub mod Fronts
pub mod Names
pub mod Lists
pub mod Tallies
pub mod Sums
pub mod Folds
pub mod Signers
