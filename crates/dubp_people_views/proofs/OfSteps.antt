-- What those above take from here of the lemmas of dubp_steps.
pub use Rattle.dubp_registry.proofs.OfSteps.{same_keys, same_truth, filtered_keys_rise, issuers_to, issuers_named, receivers_from, receivers_named, identity_with, entry, some_membership}
