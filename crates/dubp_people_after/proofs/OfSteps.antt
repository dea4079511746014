-- What those above take from here of the lemmas of dubp_steps.
pub use Rattle.dubp_registry.proofs.OfSteps.{member_named, some_identity, member_has_entry, received_is_count}
