-- What those above take from here of the lemmas of dubp_atoms.
pub use Rattle.dubp_atoms.proofs.Same.{same_text_is, same_text_own}
