pub mod Longer
pub mod SameLines
pub mod Joined
pub mod OfKept
