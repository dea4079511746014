pub mod First
pub mod Sample
pub mod Table
