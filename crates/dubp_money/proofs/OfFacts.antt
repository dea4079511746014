-- What those above take from here of the lemmas of dubp_facts.
pub use Rattle.dubp_facts.proofs.Numbered.{AreBelow, next-number, heads-below, of_hash, stamped-numbered}
