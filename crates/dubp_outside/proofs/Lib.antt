pub mod Known
mod Pieces
