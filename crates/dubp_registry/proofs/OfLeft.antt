-- What those above take from here of the lemmas of dubp_left.
pub use Rattle.dubp_left.proofs.Lines.{last_line-in, identity_lines-once}
pub use Rattle.dubp_left.proofs.Left.{certifications-at, identities-at}
pub use Rattle.dubp_left.proofs.Looked.{newest-left, identity-look, membership-look}
pub use Rattle.dubp_left.proofs.OfSteps.{live_at_is_of_row}
pub use Rattle.dubp_left.proofs.Times.{written-time}
pub use Rattle.dubp_left.proofs.Webs.{member_told, next_member_told, next_issuer_told, issuers_told}
