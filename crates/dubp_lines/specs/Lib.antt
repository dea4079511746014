pub mod Lines
pub mod Taking
pub mod Takes
pub mod Readers
