-- What those above take from here of the lemmas of dubp_left.
pub use Rattle.dubp_registry.proofs.OfLeft.{certifications-at, newest-left, last_line-in, identities-at, identity_lines-once}
