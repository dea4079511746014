-- What those above take from here of the lemmas of dubp_kept.
pub use Rattle.dubp_kept.proofs.OfValidity.{members_are_counted}
pub use Rattle.dubp_kept.proofs.Moved.{length_heads, take_next}
