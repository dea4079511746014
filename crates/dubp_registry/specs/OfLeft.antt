-- What those above take from here of the definitions of dubp_left.
pub use Rattle.dubp_left.specs.Next.{IsAsked, IsWritten}
pub use Rattle.dubp_left.specs.declared.next.Next.{Next}
pub use Rattle.dubp_left.specs.Left.{cert_entry, certification_left, certifications_left, identities_left, identity_entry, identity_left, member_entry, membership_left, queue_left, memberships_left, kicked_at}
pub use Rattle.dubp_left.specs.Laws.{time_numbered}
