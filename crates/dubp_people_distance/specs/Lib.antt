pub mod Certified
pub mod Ends
pub mod Moved
pub mod Stated
pub mod Webs
