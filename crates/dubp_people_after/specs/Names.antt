-- What documents repeat of an identity: memberships its UID and its stamp, certifications its signature too. Protocol: people, documents.
use Rattle.std.specs.Prelude.{ℕ, Bool, false, ◌&&◌, Option}
use Rattle.std.specs.Option.{option_map_or, IsSomeAnd}
use Rattle.dubp_atoms.specs.Same.{Text, same_text, same_stamp}
use Rattle.dubp_atoms.specs.declared.stamp.Stamp.{Stamp}
use Rattle.dubp_block.specs.declared.block.IdentityLine.{IdentityLine}
use Rattle.dubp_block.specs.declared.block.MemberLine.{MemberLine}
use Rattle.dubp_block.specs.declared.block.CertLine.{CertLine}
use Rattle.dubp_chain.specs.OfDocs.{signed_text as signed_document}
use Rattle.dubp_chain.specs.OfDocs.{Certification}
use Rattle.dubp_chain.specs.People.{Written}
use Rattle.dubp_verdict.specs.Verdicts.{Verdicts, HasVerdict}
use Rattle.dubp_registry.specs.OfFacts.{BlockTime}
use Rattle.dubp_people_after.specs.declared.after.Name.{Name}

abbrev pub name_of_line : IdentityLine → Name
name_of_line line = record { uid = line.uid; stamp = line.stamp; sig = line.sig }

abbrev pub name_of : Written IdentityLine → Name
name_of w = name_of_line w.line

-- the membership repeats the UID and the stamp of the identity
abbrev pub repeats : MemberLine → Name → Bool
repeats line name = same_text line.uid name.uid && same_stamp line.identity_stamp name.stamp

abbrev pub is_repeated : MemberLine → Option Name → Bool
is_repeated line name = option_map_or (repeats line) name false

-- the stamp of the block of a number
abbrev pub stamp_at : ℕ → BlockTime → Stamp
stamp_at number at = record { number = number; hash = at.hash }

-- the issuer's signature of the document on this identity has a verdict
abbrev pub CertifiesOn : Verdicts → Text → CertLine → Name → Stamp → Type 0
CertifiesOn v currency line name stamp =
    HasVerdict v line.from
    (signed_document (Certification (record { currency = currency; issuer = line.from; idty_issuer = line.to; idty_unique_id = name.uid; idty_timestamp = name.stamp; idty_signature = name.sig; cert_timestamp = stamp; sig = line.sig })))
    line.sig

abbrev pub Certifies : Verdicts → Text → CertLine → Option Name → Option Stamp → Type 0
Certifies v currency line name stamp = IsSomeAnd name (λ n. IsSomeAnd stamp (λ s. CertifiesOn v currency line n s))
