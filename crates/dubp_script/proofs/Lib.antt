pub mod Tried
pub mod Commands
pub mod FramedLines
pub mod OneLine
pub mod Begun
