pub mod Steps
pub mod Left
pub mod Clearing
pub mod Laws
