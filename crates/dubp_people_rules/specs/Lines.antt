-- What the rules on people say of one line of the block, in the words of the rows that the registry has, for the functions that serve
-- them. `next` is what the chain with the block has. Protocol: rules; tables.
use Rattle.std.specs.Prelude.{◌≡◌, ◌∷◌, ℕ, ◌+◌, ◌<◌, ◌≤◌, Bool, IsTrue, ◌&&◌, Option, option_map, map, not, is_some, nat_lt, ⊤}
use Rattle.std.specs.Option.{MatchOption, IsSomeAnd}
use Rattle.std.specs.List.{AllByRecursion}
use Rattle.dubp_atoms.specs.Same.{Text}
use Rattle.dubp_docs.specs.Spelling.{signed_text as signed_document}
use Rattle.dubp_docs.specs.declared.doc.Doc.TheVariants.{Revocation}
use Rattle.dubp_block.specs.declared.block.Block.{Block}
use Rattle.dubp_block.specs.declared.block.IdentityLine.{IdentityLine}
use Rattle.dubp_block.specs.declared.block.MemberLine.{MemberLine}
use Rattle.dubp_block.specs.declared.block.RevokedLine.{RevokedLine}
use Rattle.dubp_block.specs.declared.block.CertLine.{CertLine}
use Rattle.dubp_chain.specs.Words.{names}
use Rattle.dubp_chain.specs.Chains.{Chain, params}
use Rattle.dubp_chain.specs.Members.{member}
use Rattle.dubp_chain.specs.Heads.{time_of}
use Rattle.dubp_chain.specs.Made.{made, certification_made}
use Rattle.dubp_chain.specs.People.{identity, identity_lines, membership, leaving, revoked}
use Rattle.dubp_chain.specs.Live.{wrote, kick}
use Rattle.dubp_verdict.specs.Verdicts.{Verdicts, HasVerdict}
use Rattle.dubp_validity.specs.PeopleRules.{IsInWindow, HasWaited, revocation_document}
use Rattle.dubp_iindex.specs.declared.row.IdentityRow.{IdentityRow}
use Rattle.dubp_mindex.specs.declared.member.MemberRow.{MemberRow}
use Rattle.dubp_cindex.specs.declared.row.CertRow.{CertRow}
use Rattle.dubp_registry.specs.OfLeft.{certification_left}
use Rattle.dubp_registry.specs.OfLeft.{time_numbered}
use Rattle.dubp_registry.specs.OfLeft.{Next}

-- now is so long after the block of this number
abbrev pub IsPast : Chain → ℕ → ℕ → ℕ → Type 0
IsPast c now wait number = IsSomeAnd (time_numbered c number) (λ time. time + wait ≤ now)

-- ---- Identities

abbrev pub IsIdentityInTime : Chain → Block → Next → IdentityLine → Type 0
IsIdentityInTime c b next line = IsInWindow next.time next.params.idty_window (made c b line.stamp)

abbrev pub IsUidNew : Chain → IdentityLine → Type 0
IsUidNew c line = IsTrue (not (names (map (λ old. old.uid) (identity_lines c)) line.uid))

abbrev pub IsIdentityNew : Chain → IdentityLine → Type 0
IsIdentityNew c line = IsTrue (not (names (map (λ old. old.key) (identity_lines c)) line.key))

-- ---- Joiners, Actives, Leavers

-- of each line of the three sections
abbrev pub InSections : (MemberLine → Type 0) → Block → Type 0
InSections P b = AllByRecursion P b.joiners × AllByRecursion P b.actives × AllByRecursion P b.leavers

abbrev pub IsMembershipInTime : Chain → Block → Next → MemberLine → Type 0
IsMembershipInTime c b next line = IsInWindow next.time next.params.ms_window (made c b line.stamp)

-- the stamp names a later block than that of the last one of the key
abbrev pub IsNewerThan : MemberLine → MemberRow → Type 0
IsNewerThan line last = last.last_number < line.stamp.number

abbrev pub IsMembershipNewer : Chain → MemberLine → Type 0
IsMembershipNewer c line = MatchOption (membership c line.key) ⊤ (λ last. last.line.stamp.number < line.stamp.number)

-- t is so long after the block of the last one of the key
abbrev pub IsApart : Chain → Block → MemberLine → Type 0
IsApart c b line = MatchOption (membership c line.key) ⊤ (HasWaited (time_of (b ∷ c)) (params (b ∷ c)).ms_window)

-- the same, by the number of that block
abbrev pub IsMembershipApart : Chain → Next → MemberLine → Type 0
IsMembershipApart c next line = MatchOption (option_map (λ w. w.block.number) (membership c line.key)) ⊤ (IsPast c next.time next.params.ms_window)

abbrev pub IsNoMember : Chain → MemberLine → Type 0
IsNoMember c line = IsTrue (not (member c line.key))

abbrev pub IsMember : Chain → MemberLine → Type 0
IsMember c line = IsTrue (member c line.key)

abbrev pub MayLeave : Chain → MemberLine → Type 0
MayLeave c line = IsTrue (member c line.key && not (leaving c line.key))

abbrev pub IsNotRevoked : Chain → MemberLine → Type 0
IsNotRevoked c line = IsTrue (not (revoked c line.key))

-- ---- Revoked

abbrev pub MayBeRevoked : Chain → RevokedLine → Type 0
MayBeRevoked c line = IsTrue (is_some (identity c line.key) && not (revoked c line.key))

abbrev pub IsRevocationSigned : Verdicts → Chain → Block → RevokedLine → Type 0
IsRevocationSigned v c b line =
    IsSomeAnd (identity c line.key) (λ of. HasVerdict v line.key (revocation_document b.currency line of) line.sig)

-- the line has a verdict over the revocation document of the identity with this row
abbrev pub IsSignedRevocation : Verdicts → Text → RevokedLine → IdentityRow → Type 0
IsSignedRevocation v currency line row =
    HasVerdict v line.key (signed_document (Revocation (record { currency = currency; issuer = line.key; idty_unique_id = row.uid; idty_timestamp = row.stamp; idty_signature = row.sig; sig = line.sig }))) line.sig

-- ---- Certifications

abbrev pub IsCertificationInTime : Chain → Block → Next → CertLine → Type 0
IsCertificationInTime c b next line = IsInWindow next.time next.params.sig_window (certification_made c b line)

abbrev pub HasIssuerWaited : Chain → Next → CertLine → Type 0
HasIssuerWaited c next line = MatchOption (wrote c line.from) ⊤ (IsPast c next.time next.params.sig_period)

-- the certification of the row is live when the block is written
abbrev pub is_live_then : Next → CertRow → Bool
is_live_then next row = row.live && nat_lt next.time (row.made + next.params.sig_validity)

-- the line may renew the certification of the row
abbrev pub IsRowRenewed : Chain → Block → Next → CertLine → CertRow → Type 0
IsRowRenewed c b next line row =
    (b.version ≡ 11) × IsPast c next.time next.params.ms_window row.written × IsSomeAnd (certification_made c b line) (λ m. row.made < m)

-- the line may follow the certification of the row, where there is one
abbrev pub MayFollow : Chain → Block → Next → CertLine → Option CertRow → Type 0
MayFollow c b next line last = MatchOption last ⊤ (λ row. IsTrue (is_live_then next row) → IsRowRenewed c b next line row)

abbrev pub MayFollowLast : Chain → Block → Next → CertLine → Type 0
MayFollowLast c b next line = MayFollow c b next line (certification_left c (line.from, line.to))

-- ---- Excluded

abbrev pub IsKicked : Chain → Text → Type 0
IsKicked c k = IsTrue (names (kick c) k)
