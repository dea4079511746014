pub mod Stamps
pub mod Paths
pub mod Sorted
pub mod Greatest
pub mod Ending
pub mod Resolving
pub mod Apart
pub mod Candidates
pub mod Last
mod Examples
