pub mod Split
pub mod Taken
pub mod Written
pub mod Readers
pub mod Rows
pub mod Entries
pub mod Loops
