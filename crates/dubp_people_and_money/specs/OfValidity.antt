-- What those above take from here of the definitions of dubp_validity.
pub use Rattle.dubp_validity.specs.Rules.{FirstBroken, Holds, IsSound, IsShort, longest_block}
pub use Rattle.dubp_validity.specs.Records.{records, records_at}
pub use Rattle.dubp_validity.specs.Drafts.{FirstBad}
