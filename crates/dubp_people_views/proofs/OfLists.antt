-- What those above take from here of the lemmas of dubp_lists.
pub use Rattle.dubp_registry.proofs.OfLists.{same_text_is, same_text_own, all_append}
