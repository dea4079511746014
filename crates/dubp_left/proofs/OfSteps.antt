-- What those above take from here of the lemmas of dubp_steps.
pub use Rattle.dubp_steps.proofs.Counts.{live_at_is_of_row, received_is_of_table, stock_is_of_table, wrote_is_greatest, live_step, members_are_count}
pub use Rattle.dubp_steps.proofs.Lives.{live_is_of_row, received_is_count, stock_is_count, live_some, issuers_to, issuers_named, receivers_from, receivers_named, same_received}
pub use Rattle.dubp_steps.proofs.Touched.{members_are_table}
pub use Rattle.dubp_steps.proofs.Kicked.{member_named}
pub use Rattle.dubp_steps.proofs.Standing.{some_identity, member_has_entry, entry, some_membership}
pub use Rattle.dubp_steps.proofs.Rows.{identity_step, identity_with}
pub use Rattle.dubp_steps.proofs.Rising.{same_keys, same_truth, filtered_keys_rise}
pub use Rattle.dubp_steps.proofs.Fits.{certifications_fit}
pub use Rattle.dubp_steps.proofs.Planned.{planned_later}
pub use Rattle.dubp_steps.proofs.Queue.{queued_certification}
