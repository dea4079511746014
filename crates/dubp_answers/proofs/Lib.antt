pub mod Views
pub mod RecordNumbers
