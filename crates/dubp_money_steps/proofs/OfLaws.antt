-- What those above take from here of the lemmas of dubp_laws.
pub use Rattle.dubp_laws.proofs.Conservation.{conserves}
pub use Rattle.dubp_laws.proofs.Sources.{SourcesApart, sources-filter, same_source_is, same_source_own, sources_tail, sources_head}
pub use Rattle.dubp_laws.proofs.Spending.{pays, at_hand-is}
pub use Rattle.dubp_laws.proofs.MadeOnce.{made_sources-once}
