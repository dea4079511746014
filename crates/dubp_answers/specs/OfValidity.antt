-- What those above take from here of the definitions of dubp_validity.
pub use Rattle.dubp_validity.specs.Rules.{IsSound}
pub use Rattle.dubp_validity.specs.Records.{records_at}
pub use Rattle.dubp_validity.specs.declared.record.Record.{Record}
