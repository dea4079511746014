-- What those above take from here of the definitions of dubp_validity.
pub use Rattle.dubp_validity.specs.declared.record.Record.{Record}
pub use Rattle.dubp_validity.specs.declared.record.Record.TheVariants.{Clear}
pub use Rattle.dubp_validity.specs.Records.{clearing_records, input_of}
pub use Rattle.dubp_validity.specs.Rules.{IsSound, IsShort}
