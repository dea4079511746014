pub mod Fields
pub mod Lacking
pub mod ParamsRead
