-- What those above take from here of the lemmas of dubp_validity.
pub use Rattle.dubp_validity.proofs.Members.{members_are_counted}
