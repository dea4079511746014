-- What those above take from here of the lemmas of dubp_facts.
pub use Rattle.dubp_facts.proofs.Numbered.{next-number}
