pub mod Moves
pub mod Rows
pub mod Handicaps
pub mod Digits
pub mod Returns
