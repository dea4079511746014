-- What those above take from here of the lemmas of dubp_lists.
pub use Rattle.dubp_lists.proofs.Elements.{is_false, IsIn, in_any, any_in, in_filter, kept_in, filter_on, filter_twice, in_all, all_from_in, not_true, in_left, all_append, filter_true, all_more, and_left, and_right, in_append, in_right, list_any-map, none_in}
pub use Rattle.dubp_lists.proofs.InOrder.{same_text_is, same_text_own}
pub use Rattle.dubp_lists.proofs.Once.{each_once-map, sum_of_one}
