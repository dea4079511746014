pub mod SourceLines
pub mod RecordLines
pub mod RecordNumbers
pub mod MoveLines
pub mod OfValidity
