-- What those above take from here of the definitions of dubp_replay.
pub use Rattle.dubp_replay.specs.OfMoves.{IsStatement, account_of}
