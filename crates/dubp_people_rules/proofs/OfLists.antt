-- What those above take from here of the lemmas of dubp_lists.
pub use Rattle.dubp_lists.proofs.Elements.{and_left, and_right, not_true, or_left, or_right, or_true, in_all, in_any, in_left, any_in, list_any-map}
pub use Rattle.dubp_lists.proofs.InOrder.{same_text_is, members-once}
pub use Rattle.dubp_lists.proofs.LastLines.{last_line-any}
