-- What those above take from here of the lemmas of dubp_steps.
pub use Rattle.dubp_people_after.proofs.OfSteps.{some_identity, member_has_entry, member_named}
