-- What those above take from here of the lemmas of dubp_steps.
pub use Rattle.dubp_left.proofs.OfSteps.{received_is_count, stock_is_count, same_keys, same_truth, filtered_keys_rise, issuers_to, issuers_named, receivers_from, receivers_named, identity_with, entry, some_membership, live_at_is_of_row, live_step, members_are_count, member_named, some_identity, member_has_entry}
