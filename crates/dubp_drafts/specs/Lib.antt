pub mod Keys
pub mod Numbers
pub mod Sealing
pub mod Begun
pub mod Drafting
