-- What those above take from here of the lemmas of dubp_lists.
pub use Rattle.dubp_lists.proofs.LastLines.{last_line-any, last_any, last_of-append, time_of-rises}
pub use Rattle.dubp_lists.proofs.Elements.{IsIn, in_all, any_in, in_any, in_left, in_right, last_in, is_false, list_any-map, in_append, in_map, and_left, and_right, in_filter, kept_in, all_append, not_true, or_left, or_right, filter_on, filter_true}
pub use Rattle.dubp_lists.proofs.InOrder.{same_text_is, same_text_own, members-once}
pub use Rattle.dubp_lists.proofs.Once.{Once, once_head, once_tail, once-append, each_once-map, once-filter}
