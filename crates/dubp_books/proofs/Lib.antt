pub mod Asked
pub mod Chosen
pub mod Records
pub mod Sides
