pub mod Identities
pub mod Certs
pub mod Distances
pub mod Accounts
pub mod Rows
