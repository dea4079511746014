-- What those above take from here of the definitions of dubp_validity.
pub use Rattle.dubp_validity.specs.Rules.{IsSound, IsShort, KeepsUnsigned}
pub use Rattle.dubp_validity.specs.Records.{records, expiry_records, revocation_records, ended_records, clearing_records}
