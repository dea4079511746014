pub mod Last
pub mod Lines
pub mod Rows
