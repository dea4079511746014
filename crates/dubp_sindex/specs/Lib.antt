pub mod Accounts
pub mod Changes
pub mod Derived
pub mod Links
pub mod Numbering
pub mod Origins
pub mod Rows
pub mod States
