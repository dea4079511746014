-- What those above take from here of the lemmas of dubp_atoms.
pub use Rattle.dubp_time.proofs.OfAtoms.{same_text_is, same_text_own}
