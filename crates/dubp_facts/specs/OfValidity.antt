-- What those above take from here of the definitions of dubp_validity.
pub use Rattle.dubp_validity.specs.Rules.{IsSound, Holds, reads_verdicts}
pub use Rattle.dubp_validity.specs.PeopleRules.{is_identity_of, may_certify, JoinersAreCertified, StocksAreKept, IssuersAreMembers, ReceiversAreMembers, ReceiversStay, MembershipsHaveIdentities, CertificationsAreSigned, IsCertifiedBy, ComersPass}
