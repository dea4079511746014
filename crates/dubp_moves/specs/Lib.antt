pub mod Accounts
pub mod Moves
pub mod Statements
