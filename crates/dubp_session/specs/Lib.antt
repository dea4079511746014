pub mod Statuses
pub mod Generating
pub mod Forms
