pub mod Finders
pub mod Journal
pub mod Least
pub mod MovingTable
pub mod Slots
pub mod Walking
