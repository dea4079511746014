-- What those above take from here of the definitions of dubp_left.
pub use Rattle.dubp_registry.specs.OfLeft.{identity_entry, identity_left, cert_entry, certification_left, certifications_left, member_entry, membership_left, identities_left}
