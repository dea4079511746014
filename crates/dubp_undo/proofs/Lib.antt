pub mod Counted
pub mod Maps
pub mod Past
pub mod Turned
