-- The documents of given fields, in the order in which their lines have them.
use Rattle.std.specs.Prelude.{Bool}
use Rattle.dubp_atoms.specs.Same.{Text}
use Rattle.dubp_atoms.specs.declared.stamp.Stamp.{Stamp}
use Rattle.dubp_docs.specs.declared.doc.IdentityDoc.{IdentityDoc}
use Rattle.dubp_docs.specs.declared.doc.RevocationDoc.{RevocationDoc}
use Rattle.dubp_docs.specs.declared.doc.CertificationDoc.{CertificationDoc}
use Rattle.dubp_docs.specs.declared.doc.MembershipDoc.{MembershipDoc}

abbrev pub identity_of : (currency issuer uid : Text) (timestamp : Stamp) (sig : Text) → IdentityDoc
identity_of currency issuer uid timestamp sig = record { currency = currency; issuer = issuer; unique_id = uid; timestamp = timestamp; sig = sig }

abbrev pub revocation_of : (currency issuer uid : Text) (timestamp : Stamp) (idty_signature sig : Text) → RevocationDoc
revocation_of currency issuer uid timestamp idty_signature sig = record {
  currency = currency;
  issuer = issuer;
  idty_unique_id = uid;
  idty_timestamp = timestamp;
  idty_signature = idty_signature;
  sig = sig;
}

abbrev pub certification_of : (currency issuer idty_issuer uid : Text) (idty_timestamp : Stamp) (idty_signature : Text) (cert_timestamp : Stamp) (sig : Text) → CertificationDoc
certification_of currency issuer idty_issuer uid idty_timestamp idty_signature cert_timestamp sig = record {
  currency = currency;
  issuer = issuer;
  idty_issuer = idty_issuer;
  idty_unique_id = uid;
  idty_timestamp = idty_timestamp;
  idty_signature = idty_signature;
  cert_timestamp = cert_timestamp;
  sig = sig;
}

abbrev pub membership_of : (currency issuer : Text) (block : Stamp) (membership : Bool) (user_id : Text) (cert_ts : Stamp) (sig : Text) → MembershipDoc
membership_of currency issuer block membership user_id cert_ts sig = record {
  currency = currency;
  issuer = issuer;
  block = block;
  membership = membership;
  user_id = user_id;
  cert_ts = cert_ts;
  sig = sig;
}
