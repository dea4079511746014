pub mod Lines
pub mod Spending
pub mod OfLeft
pub mod OfMoney
pub mod OfValidity
pub mod Judged
pub mod Judging
