-- What those above take from here of the lemmas of dubp_lists.
pub use Rattle.dubp_lists.proofs.InOrder.{same_text_is}
