-- What one block more makes of the tables of people, at each key, from what stood there before: by its lines, and then by what is taken
-- from the queue. `c` is a chain whose blocks keep every rule that reads no verdict, and so does `b` on it. Protocol: tables, records.
use Rattle.std.specs.Prelude.{◌≡◌, ◌↔◌, ℕ, ◌+◌, ◌*◌, Bool, false, not, ◌&&◌, ◌∷◌, ◌++◌, List, option_map, IsTrue, map, length, nat_lt, ◌==◌, if◌then◌else◌}
use Rattle.std.specs.Option.{option_or, option_map_or}
use Rattle.std.specs.List.{list_any, IsDistinct}
use Rattle.std.specs.List.Sorted.{IsStrictlySortedBy}
use Rattle.dubp_atoms.specs.Same.{Text, same_text}
use Rattle.dubp_block.specs.declared.block.Block.{Block}
use Rattle.dubp_block.specs.declared.block.CertLine.{CertLine}
use Rattle.dubp_validity.specs.declared.record.Record.{Record}
use Rattle.dubp_validity.specs.declared.record.Record.TheVariants.{Enter, Exit, Active, Revoke, Expire, ExpireRev, Cert, CertExpire}
use Rattle.dubp_chain.specs.Words.{names, last_of}
use Rattle.dubp_chain.specs.Chains.{Chain, params}
use Rattle.dubp_chain.specs.Members.{is_of, member, members}
use Rattle.dubp_chain.specs.Heads.{time_of}
use Rattle.dubp_chain.specs.People.{membership_lines}
use Rattle.dubp_chain.specs.Live.{live, received, stock, wrote, kick}
use Rattle.dubp_validity.specs.Records.{line_records, expiry_records, revocation_records, ended_records}
use Rattle.dubp_chain.specs.Tables.{identity_row, MembershipRow, membership_row, CertificationRow, certification_row, Due, is_queued, is_to_be_excluded}
use Rattle.dubp_chain.specs.Tables.Due.{Membership, Revocation, Certification}
use Rattle.dubp_validity.specs.Rules.{IsSound}
use Rattle.dubp_steps.specs.AfterLines.{now_of, entering_lines, of_pair, is_planned, identity_after_lines, membership_after_lines, certification_after_lines, queue_after_lines}
use Rattle.dubp_steps.specs.Taken.{IsTaken, revoked_by_time, ended_by_time, Expires, RevokedInTime, Ends, kicked_by}
use Rattle.dubp_steps.specs.Ordered.{text_cmp, pair_cmp, has_pair}

-- rows

abbrev pub IdentityStep : Type 0
IdentityStep = (c : Chain) (b : Block) → IsSound (b ∷ c) → (k : Text) → identity_row (b ∷ c) k ≡ identity_after_lines b k (identity_row c k)

abbrev pub MembershipStep : Type 0
MembershipStep =
    (c : Chain) (b : Block) → IsSound (b ∷ c) → (k : Text)
    → membership_row (b ∷ c) k ≡ option_map (revoked_by_time c b k) (membership_after_lines c b k (membership_row c k))

abbrev pub CertificationStep : Type 0
CertificationStep =
    (c : Chain) (b : Block) (x y : Text)
    → certification_row (b ∷ c) x y ≡ option_map (ended_by_time c b x y) (certification_after_lines c b x y (certification_row c x y))

-- and where nothing names the key or pair they stay

abbrev pub IdentityStays : Type 0
IdentityStays =
    (c : Chain) (b : Block) → IsSound (b ∷ c) → (k : Text)
    → list_any (λ line. same_text k line.key) b.identities ≡ false → list_any (is_of k) b.joiners ≡ false → names b.excluded k ≡ false
    → identity_row (b ∷ c) k ≡ identity_row c k

abbrev pub MembershipStays : Type 0
MembershipStays =
    (c : Chain) (b : Block) → IsSound (b ∷ c) → (k : Text)
    → list_any (is_of k) (membership_lines b) ≡ false → list_any (λ line. same_text k line.key) b.revoked ≡ false → (IsTaken c b (Revocation k) → ⊥)
    → membership_row (b ∷ c) k ≡ membership_row c k

abbrev pub CertificationStays : Type 0
CertificationStays =
    (c : Chain) (b : Block) (x y : Text) → list_any (of_pair x y) b.certifications ≡ false → (IsTaken c b (Certification x y) → ⊥)
    → certification_row (b ∷ c) x y ≡ certification_row c x y

-- the queue

abbrev pub QueueStep : Type 0
QueueStep =
    (c : Chain) (b : Block) → IsSound (b ∷ c) → (at : ℕ) (due : Due)
    → is_queued (b ∷ c) at due ≡ (queue_after_lines c b at due && nat_lt (now_of c b) at)

-- what stands in the queue follows from the rows
abbrev pub waits_for_expiry : ℕ → ℕ → ℕ → MembershipRow → Bool
waits_for_expiry time lasting at row = is_planned time (row.made + lasting) at

abbrev pub waits_for_revocation : ℕ → ℕ → MembershipRow → Bool
waits_for_revocation lasting at row = not row.is_revoked && row.made + 2 * lasting == at

abbrev pub waits_for_end : ℕ → ℕ → CertificationRow → Bool
waits_for_end lasting at row = row.is_live && row.made + lasting == at

pub record FitsRows (c : Chain) : Type 0 where
  pub memberships : (at : ℕ) (k : Text) → is_queued c at (Membership k) ≡ option_map_or (waits_for_expiry (time_of c) (params c).ms_validity at) (membership_row c k) false
  pub revocations : (at : ℕ) (k : Text) → is_queued c at (Revocation k) ≡ option_map_or (waits_for_revocation (params c).ms_validity at) (membership_row c k) false
  pub certifications : (at : ℕ) (x y : Text) → is_queued c at (Certification x y) ≡ option_map_or (waits_for_end (params c).sig_validity at) (certification_row c x y) false

abbrev pub QueueFitsRows : Type 0
QueueFitsRows = (c : Chain) → IsSound c → FitsRows c

-- live pairs, counts, and the last block of an issuer

abbrev pub LiveIsOfRow : Type 0
LiveIsOfRow = (c : Chain) (x y : Text) → live c x y ≡ option_map_or (λ (row : CertificationRow). row.is_live) (certification_row c x y) false

-- a list without repeats of those with a live certification to k is as long as `received` says
abbrev pub ReceivedIsCount : Type 0
ReceivedIsCount =
    (c : Chain) (k : Text) (keys : List Text) → IsDistinct same_text keys → ((a : Text) → names keys a ≡ live c a k) → length keys ≡ received c k

abbrev pub StockIsCount : Type 0
StockIsCount =
    (c : Chain) (k : Text) (keys : List Text) → IsDistinct same_text keys → ((a : Text) → names keys a ≡ live c k a) → length keys ≡ stock c k

abbrev pub WroteStep : Type 0
WroteStep =
    (c : Chain) (b : Block) (a : Text)
    → wrote (b ∷ c) a ≡ option_or (option_map (λ (line : CertLine). b.number) (last_of (λ line. same_text a line.from) b.certifications)) (wrote c a)

-- who is to be excluded

abbrev pub KickedIsOfRows : Type 0
KickedIsOfRows =
    (c : Chain) → IsSound c → (k : Text)
    → is_to_be_excluded c k ≡ kicked_by (params c) (time_of c) (received c k) (identity_row c k) (membership_row c k)

-- no line names the key but as an issuer, as a new identity or as one that leaves, and nothing of it is taken
pub record IsUntouched (c : Chain) (b : Block) (k : Text) : Type 0 where
  pub enters : list_any (is_of k) (entering_lines b) ≡ false
  pub revoked : names (map (λ line. line.key) b.revoked) k ≡ false
  pub excluded : names b.excluded k ≡ false
  pub certified : list_any (λ line. same_text k line.to) b.certifications ≡ false
  pub expires : IsTaken c b (Membership k) → ⊥
  pub ends : IsTaken c b (Revocation k) → ⊥
  pub loses : (a : Text) → IsTaken c b (Certification a k) → ⊥

abbrev pub KickedStays : Type 0
KickedStays =
    (c : Chain) (b : Block) → IsSound (b ∷ c) → (k : Text) → IsUntouched c b k → is_to_be_excluded (b ∷ c) k ≡ is_to_be_excluded c k

-- a record that may change whether k is to be excluded
abbrev pub touches : Text → Record → Bool
touches k (Enter key) = same_text k key
touches k (Exit key) = same_text k key
touches k (Active key made) = same_text k key
touches k (Revoke key) = same_text k key
touches k (Expire key) = same_text k key
touches k (ExpireRev key) = same_text k key
touches k (Cert from to made) = same_text k to
touches k (CertExpire from to) = same_text k to
touches k other = false

-- the records on people of b on c, in order: the first of all that it writes
abbrev pub people_records : Chain → Block → List Record
people_records c b = line_records c b ++ (expiry_records c b ++ (revocation_records c b ++ ended_records c b))

-- only for a key that a record touches it has to be looked at anew
abbrev pub KickedByRecords : Type 0
KickedByRecords =
    (c : Chain) (b : Block) → IsSound (b ∷ c) → (k : Text)
    → is_to_be_excluded (b ∷ c) k
    ≡ (if list_any (touches k) (people_records c b)
    then kicked_by (params (b ∷ c)) (now_of c b) (received (b ∷ c) k) (identity_row (b ∷ c) k) (membership_row (b ∷ c) k)
    else is_to_be_excluded c k)

-- the table in order is the list, and so are the members
abbrev pub KickIsTable : Type 0
KickIsTable = (c : Chain) (ks : List Text) → IsStrictlySortedBy text_cmp ks → ((k : Text) → names ks k ≡ is_to_be_excluded c k) → ks ≡ kick c

abbrev pub MembersAreTable : Type 0
MembersAreTable = (c : Chain) (ks : List Text) → IsStrictlySortedBy text_cmp ks → ((k : Text) → names ks k ≡ member c k) → ks ≡ members c

-- the records that no line names

abbrev pub ExpiryRecordsAre : Type 0
ExpiryRecordsAre =
    (c : Chain) (b : Block) → IsSound (b ∷ c) → (ks : List Text) → IsStrictlySortedBy text_cmp ks → ((k : Text) → IsTrue (names ks k) ↔ Expires c b k)
    → map Expire ks ≡ expiry_records c b

abbrev pub RevocationRecordsAre : Type 0
RevocationRecordsAre =
    (c : Chain) (b : Block) → IsSound (b ∷ c) → (ks : List Text) → IsStrictlySortedBy text_cmp ks → ((k : Text) → IsTrue (names ks k) ↔ RevokedInTime c b k)
    → map ExpireRev ks ≡ revocation_records c b

abbrev pub EndedRecordsAre : Type 0
EndedRecordsAre =
    (c : Chain) (b : Block) (ps : List (Text × Text)) → IsStrictlySortedBy pair_cmp ps → ((x y : Text) → IsTrue (has_pair ps x y) ↔ Ends c b x y)
    → map (λ p. CertExpire p.0 p.1) ps ≡ ended_records c b
