pub mod Building
pub mod Nodes
pub mod Playing
pub mod Winning
