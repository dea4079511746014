pub mod Known
pub mod Numbers
pub mod Order
pub mod Search
pub mod Sought
