-- What those above take from here of the lemmas of dubp_laws.
pub use Rattle.dubp_money_steps.proofs.OfLaws.{made_sources-once, same_source_is, same_source_own, SourcesApart, sources_tail, sources_head, sources-filter}
