pub mod KeptChain
pub mod LeftBehind
pub mod Moves
pub mod OfLocal
pub mod Parts
pub mod Asking
pub mod Judged
