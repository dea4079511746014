pub mod Spelling
pub mod AddsLines
pub mod Fields
pub mod Hashes
pub mod Reading
pub mod Passing
