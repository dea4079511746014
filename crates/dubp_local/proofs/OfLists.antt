-- What those above take from here of the lemmas of dubp_lists.
pub use Rattle.dubp_lists.proofs.Elements.{in_all, all_from_in, all_append, in_filter, all_more, in_left, any_left}
pub use Rattle.dubp_lists.proofs.Once.{each_once-map}
