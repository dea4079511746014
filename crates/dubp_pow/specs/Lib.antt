pub mod Frames
pub mod LeastDifficulty
pub mod Ladder
pub mod Difficulty
pub mod Meeting
pub mod OfParams
