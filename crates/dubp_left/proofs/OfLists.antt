-- What those above take from here of the lemmas of dubp_lists.
pub use Rattle.dubp_steps.proofs.OfLists.{IsIn, in_any, any_in, same_text_is, same_text_own, and_left, and_right, in_filter, kept_in, all_append, last_in, is_false, last_any, last_line-any, Once, once_head, once_tail, each_once-map, last_of-append, in_left, in_right, in_map, time_of-rises, not_true, members-once, once-filter, once-append, or_left, or_right, list_any-map, filter_on, filter_true}
