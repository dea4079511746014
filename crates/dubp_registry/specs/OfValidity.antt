-- What those above take from here of the definitions of dubp_validity.
pub use Rattle.dubp_left.specs.OfValidity.{is_identity_of, may_certify, JoinersAreCertified, StocksAreKept, IssuersAreMembers, ReceiversAreMembers, ReceiversStay, MembershipsHaveIdentities, CertificationsAreSigned, IsSound, IsCertifiedBy}
