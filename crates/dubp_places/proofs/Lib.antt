pub mod Following
pub mod Table
pub mod Lines
