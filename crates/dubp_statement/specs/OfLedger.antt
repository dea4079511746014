-- What those above take from here of the definitions of dubp_ledger.
pub use Rattle.dubp_ledger.specs.States.{IsDifficulty}
