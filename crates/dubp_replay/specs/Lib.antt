pub mod AnswerBytes
pub mod Answers
pub mod OfForging
pub mod OfMoves
pub mod OneLine
pub mod Turns
