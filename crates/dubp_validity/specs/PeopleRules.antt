-- The rules on identities, memberships, certifications and exclusions: `c` is the chain and `b` the block on it, and t, the time
-- of the chain with the block, is `time_of (b ∷ c)`. Protocol: rules.
use Rattle.std.specs.Prelude.{◌≡◌, ◌⊎◌, ℕ, ◌+◌, ◌<◌, ◌≤◌, Bool, IsTrue, ◌&&◌, not, List, [], ◌∷◌, ◌++◌, map, length, is_some, Option, ⊤}
use Rattle.std.specs.Option.{MatchOption, IsSomeAnd}
use Rattle.std.specs.List.{AllByRecursion, list_any}
use Rattle.dubp_verdict.specs.OfAtoms.{Text, same_text, same_stamp}
use Rattle.dubp_chain.specs.OfDocs.{signed_text as signed_document}
use Rattle.dubp_chain.specs.OfDocs.{Revocation, Certification}
use Rattle.dubp_chain.specs.OfBlock.{Block}
use Rattle.dubp_chain.specs.OfBlock.{IdentityLine}
use Rattle.dubp_chain.specs.OfBlock.{MemberLine}
use Rattle.dubp_chain.specs.OfBlock.{RevokedLine}
use Rattle.dubp_chain.specs.OfBlock.{CertLine}
use Rattle.dubp_verdict.specs.OfAtoms.{Stamp}
use Rattle.dubp_chain.specs.Words.{names}
use Rattle.dubp_chain.specs.Chains.{Chain, params}
use Rattle.dubp_chain.specs.Members.{member}
use Rattle.dubp_chain.specs.Heads.{time_of}
use Rattle.dubp_chain.specs.Made.{made, certification_stamp, certification_made}
use Rattle.dubp_chain.specs.People.{Written, written_time, identity, identity_lines, membership, membership_lines, leaving, revoked}
use Rattle.dubp_chain.specs.Live.{certification, last_from, made_of, live_at, received, stock, kick}
use Rattle.dubp_chain.specs.Distance.{Passes}
use Rattle.dubp_verdict.specs.Verdicts.{Verdicts, HasVerdict}

-- what was made at this time, where it has one, is at most a window old at t
abbrev pub IsInWindow : ℕ → ℕ → Option ℕ → Type 0
IsInWindow t window at = IsSomeAnd at (λ m. t ≤ m + window)

-- so long after the block of an earlier line
abbrev pub HasWaited : {Line : Type 0} → ℕ → ℕ → Written Line → Type 0
HasWaited t wait last = written_time last + wait ≤ t

-- X06: The chain and the block have at most 1,000,000 lines of Identities together.
abbrev pub IdentitiesAreFew : Chain → Block → Type 0
IdentitiesAreFew c b = length (identity_lines (b ∷ c)) ≤ 1000000

-- G63: The stamp of each identity has a time, and t is at most idtyWindow above it.
abbrev pub IdentitiesAreInTime : Chain → Block → Type 0
IdentitiesAreInTime c b =
    AllByRecursion (λ line. IsInWindow (time_of (b ∷ c)) (params (b ∷ c)).idty_window (made c b line.stamp)) b.identities

-- G73: No UID of Identities stands in an Identities line of the chain.
abbrev pub UidsAreNew : Chain → Block → Type 0
UidsAreNew c b = AllByRecursion (λ line. IsTrue (not (names (map (λ old. old.uid) (identity_lines c)) line.uid))) b.identities

-- G74: No key of Identities stands in an Identities line of the chain.
abbrev pub IdentitiesAreNew : Chain → Block → Type 0
IdentitiesAreNew c b = AllByRecursion (λ line. IsTrue (not (names (map (λ old. old.key) (identity_lines c)) line.key))) b.identities

-- G64: The stamp of each membership has a time, and t is at most msWindow above it.
abbrev pub MembershipsAreInTime : Chain → Block → Type 0
MembershipsAreInTime c b =
    AllByRecursion (λ line. IsInWindow (time_of (b ∷ c)) (params (b ∷ c)).ms_window (made c b line.stamp)) (membership_lines b)

-- G75: The block number of each membership's stamp is above that of the last membership of its key in the chain, where there is
-- one.
abbrev pub MembershipsAreNewer : Chain → Block → Type 0
MembershipsAreNewer c b =
    AllByRecursion (λ line. MatchOption (membership c line.key) ⊤ (λ last. last.line.stamp.number < line.stamp.number)) (membership_lines b)

-- G108: Version is 10, or for each membership whose key has one in the chain, t is at least msWindow above the median time of the
-- block of the last one.
abbrev pub MembershipsAreApart : Chain → Block → Type 0
MembershipsAreApart c b =
    (b.version ≡ 10) ⊎ AllByRecursion (λ line. MatchOption (membership c line.key) ⊤ (HasWaited (time_of (b ∷ c)) (params (b ∷ c)).ms_window)) (membership_lines b)

-- G82: Each membership has a line of Identities, in the chain or in the block, with its key, UID and identity stamp.
abbrev pub is_identity_of : MemberLine → IdentityLine → Bool
is_identity_of line identity = same_text line.key identity.key && (same_text line.uid identity.uid && same_stamp line.identity_stamp identity.stamp)

abbrev pub MembershipsHaveIdentities : Chain → Block → Type 0
MembershipsHaveIdentities c b = AllByRecursion (λ line. IsTrue (list_any (is_identity_of line) (identity_lines (b ∷ c)))) (membership_lines b)

-- G78: No key of Joiners is a member of the chain.
abbrev pub JoinersAreNoMembers : Chain → Block → Type 0
JoinersAreNoMembers c b = AllByRecursion (λ line. IsTrue (not (member c line.key))) b.joiners

-- G81: Each key of Actives is a member of the chain.
abbrev pub ActivesAreMembers : Chain → Block → Type 0
ActivesAreMembers c b = AllByRecursion (λ line. IsTrue (member c line.key)) b.actives

-- G80: Each key of Leavers is a member of the chain and not leaving in it.
abbrev pub LeaversMayLeave : Chain → Block → Type 0
LeaversMayLeave c b = AllByRecursion (λ line. IsTrue (member c line.key && not (leaving c line.key))) b.leavers

-- G77: No key of Joiners, Actives or Leavers is revoked in the chain.
abbrev pub NobodyRevokedMoves : Chain → Block → Type 0
NobodyRevokedMoves c b = AllByRecursion (λ line. IsTrue (not (revoked c line.key))) (membership_lines b)

-- G83: Each key of Revoked has an identity in the chain and is not revoked in it.
abbrev pub RevokedHaveIdentities : Chain → Block → Type 0
RevokedHaveIdentities c b = AllByRecursion (λ line. IsTrue (is_some (identity c line.key) && not (revoked c line.key))) b.revoked

-- G84: Each line of Revoked has a verdict by its key over the revocation document of the key's identity in the chain; without an
-- identity it has none.
abbrev pub revocation_document : Text → RevokedLine → Written IdentityLine → List ℕ
revocation_document currency line of =
    signed_document (Revocation (record { currency = currency; issuer = line.key; idty_unique_id = of.line.uid; idty_timestamp = of.line.stamp; idty_signature = of.line.sig; sig = line.sig }))

abbrev pub RevocationsAreSigned : Verdicts → Chain → Block → Type 0
RevocationsAreSigned v c b =
    AllByRecursion (λ line. IsSomeAnd (identity c line.key) (λ of. HasVerdict v line.key (revocation_document b.currency line of) line.sig)) b.revoked

-- G65: The stamp of each certification has a time, and t is at most sigWindow above it.
abbrev pub CertificationsAreInTime : Chain → Block → Type 0
CertificationsAreInTime c b =
    AllByRecursion (λ line. IsInWindow (time_of (b ∷ c)) (params (b ∷ c)).sig_window (certification_made c b line)) b.certifications

-- G66: Each issuer of a certification has at most sigStock live certifications issued in the new chain.
abbrev pub StocksAreKept : Chain → Block → Type 0
StocksAreKept c b = AllByRecursion (λ line. stock (b ∷ c) line.from ≤ (params (b ∷ c)).sig_stock) b.certifications

-- G67: The chain is empty, or for each issuer of a certification who has issued one in the chain, t is at least sigPeriod above
-- the median time of the block of the last one.
abbrev pub IssuersWaited : Chain → Block → Type 0
IssuersWaited c b =
    AllByRecursion (λ line. MatchOption (last_from c line.from) ⊤ (HasWaited (time_of (b ∷ c)) (params (b ∷ c)).sig_period)) b.certifications

-- G68: Each issuer of a certification is a member of the chain, or of the new chain where the chain is empty.
abbrev pub may_certify : Chain → Block → Text → Bool
may_certify [] b k = member (b ∷ []) k
may_certify (a ∷ c) b k = member (a ∷ c) k

abbrev pub IssuersAreMembers : Chain → Block → Type 0
IssuersAreMembers c b = AllByRecursion (λ line. IsTrue (may_certify c b line.from)) b.certifications

-- G69: Each receiver of a certification is a member of the new chain.
abbrev pub ReceiversAreMembers : Chain → Block → Type 0
ReceiversAreMembers c b = AllByRecursion (λ line. IsTrue (member (b ∷ c) line.to)) b.certifications

-- G70: No receiver of a certification is leaving in the new chain.
abbrev pub ReceiversStay : Chain → Block → Type 0
ReceiversStay c b = AllByRecursion (λ line. IsTrue (not (leaving (b ∷ c) line.to))) b.certifications

-- G71: For each certification whose pair is live at t by the lines of the chain, Version is 11, t is at least msWindow above the
-- median time of the block of the pair's last line, and the time of the certification's stamp is above that of the pair's last
-- line.
pub record IsRenewal (c : Chain) (b : Block) (line : CertLine) (last : Written CertLine) : Type 0 where
  pub version : b.version ≡ 11
  pub waited : HasWaited (time_of (b ∷ c)) (params (b ∷ c)).ms_window last
  pub newer : IsSomeAnd (certification_made c b line) (λ m. made_of last < m)

abbrev pub LiveIsRenewed : Chain → Block → CertLine → Type 0
LiveIsRenewed c b line =
    IsTrue (live_at (time_of (b ∷ c)) c line.from line.to) → IsSomeAnd (certification c line.from line.to) (IsRenewal c b line)

abbrev pub LivePairsAreRenewed : Chain → Block → Type 0
LivePairsAreRenewed c b = AllByRecursion (LiveIsRenewed c b) b.certifications

-- G72: Each certification has a verdict by its issuer over the certification document on the identity of its receiver in the new
-- chain; without an identity it has none.
abbrev pub certification_document : Text → CertLine → Written IdentityLine → Stamp → List ℕ
certification_document currency line of stamp =
    signed_document (Certification (record { currency = currency; issuer = line.from; idty_issuer = line.to; idty_unique_id = of.line.uid; idty_timestamp = of.line.stamp; idty_signature = of.line.sig; cert_timestamp = stamp; sig = line.sig }))

abbrev pub IsCertifiedBy : Verdicts → Chain → Block → CertLine → Type 0
IsCertifiedBy v c b line =
    IsSomeAnd (identity (b ∷ c) line.to) (λ of. IsSomeAnd (certification_stamp c line) (λ stamp. HasVerdict v line.from (certification_document b.currency line of stamp) line.sig))

abbrev pub CertificationsAreSigned : Verdicts → Chain → Block → Type 0
CertificationsAreSigned v c b = AllByRecursion (IsCertifiedBy v c b) b.certifications

-- G79: Each key of Joiners has at least sigQty live certifications received in the new chain.
abbrev pub JoinersAreCertified : Chain → Block → Type 0
JoinersAreCertified c b = AllByRecursion (λ line. (params (b ∷ c)).sig_qty ≤ received (b ∷ c) line.key) b.joiners

-- G76: Each key of Joiners and Actives passes the distance rule in the new chain.
abbrev pub ComersPass : Chain → Block → Type 0
ComersPass c b = AllByRecursion (λ line. Passes (b ∷ c) line.key) (b.joiners ++ b.actives)

-- G85: Each key of Excluded is one that the chain has to exclude.
abbrev pub ExcludedAreKicked : Chain → Block → Type 0
ExcludedAreKicked c b = AllByRecursion (λ k. IsTrue (names (kick c) k)) b.excluded

-- G86: Each key that the chain has to exclude stands in Excluded.
abbrev pub KickedAreExcluded : Chain → Block → Type 0
KickedAreExcluded c b = AllByRecursion (λ k. IsTrue (names b.excluded k)) (kick c)
