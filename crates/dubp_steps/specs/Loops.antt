-- The loops of a block: what stands in the queue and in the rows while its lines are gone through, and while the queue gives what is due.
-- A queue is seen as which entries it has, a table as what it has at each key. Protocol: tables, records.
use Rattle.std.specs.Prelude.{◌≡◌, ◌↔◌, ℕ, ◌+◌, ◌*◌, Bool, true, false, not, ◌&&◌, ◌||◌, ◌==◌, ◌⊎◌, List, ◌∷◌, ◌++◌, Option, Some, option_map, fold, nat_le, nat_lt, if◌then◌else◌}
use Rattle.std.specs.Option.{option_map_or}
use Rattle.dubp_atoms.specs.Same.{Text, same_text}
use Rattle.dubp_block.specs.declared.block.Block.{Block}
use Rattle.dubp_block.specs.declared.block.MemberLine.{MemberLine}
use Rattle.dubp_block.specs.declared.block.RevokedLine.{RevokedLine}
use Rattle.dubp_block.specs.declared.block.CertLine.{CertLine}
use Rattle.dubp_validity.specs.declared.record.Record.{Record}
use Rattle.dubp_chain.specs.Chains.{Chain, params}
use Rattle.dubp_chain.specs.Members.{is_of}
use Rattle.dubp_chain.specs.People.{expired}
use Rattle.dubp_chain.specs.Live.{live, received}
use Rattle.dubp_validity.specs.Records.{membership_time}
use Rattle.dubp_chain.specs.Tables.{identity_row, MembershipRow, membership_row, CertificationRow, certification_row, Due, is_queued, is_to_be_excluded}
use Rattle.dubp_chain.specs.Tables.Due.{Membership, Revocation, Certification}
use Rattle.dubp_validity.specs.Reduced.{set_ended}
use Rattle.dubp_validity.specs.Rules.{IsSound}
use Rattle.dubp_steps.specs.AfterLines.{now_of, lasting, cert_lasting, entering_lines, of_pair, certification_time, set_revoked, enter_line, leave_line, revoke_line, membership_after_lines, certify_line, certification_after_lines, enter_entry, revoke_entry, certify_entry, queue_after_lines}
use Rattle.dubp_steps.specs.Taken.{revoke_where, end_where, is_over_at_once, is_revoked_at_once, is_ended_at_once, Expires, RevokedInTime, Ends, kicked_by}
use Rattle.dubp_steps.specs.Steps.{touches, people_records}

-- entries

abbrev pub Queue : Type 0
Queue = ℕ → Due → Bool

abbrev pub same_due : Due → Due → Bool
same_due (Membership k) (Membership l) = same_text k l
same_due (Revocation k) (Revocation l) = same_text k l
same_due (Certification x y) (Certification z w) = same_text x z && same_text y w
same_due (Membership k) (Revocation l) = false
same_due (Membership k) (Certification z w) = false
same_due (Revocation k) (Membership l) = false
same_due (Revocation k) (Certification z w) = false
same_due (Certification x y) (Membership l) = false
same_due (Certification x y) (Revocation l) = false

abbrev pub is_entry : ℕ → Due → ℕ → Due → Bool
is_entry time entry at due = time == at && same_due due entry

-- the queue with an entry planned, and without it
abbrev pub with_entry : ℕ → Due → Queue → Queue
with_entry time entry q = λ at due. is_entry time entry at due || q at due

abbrev pub without_entry : ℕ → Due → Queue → Queue
without_entry time entry q = λ at due. not (is_entry time entry at due) && q at due

-- planned where it is to come
abbrev pub with_later : ℕ → ℕ → Due → Queue → Queue
with_later now time entry q = if nat_lt now time then with_entry time entry q else q

-- lines: a line cancels the ends that stand in the row of its key or pair, and plans the new ones

-- what the queue has of a key or a pair stands at the ends of its row
pub record StandsAtEnds (lasting : ℕ) (q : Queue) (k : Text) (row : Option MembershipRow) : Type 0 where
  pub expiry : (at : ℕ) → q at (Membership k) ≡ true → option_map_or (λ (row : MembershipRow). row.made + lasting == at) row false ≡ true
  pub revocation : (at : ℕ) → q at (Revocation k) ≡ true → option_map_or (λ (row : MembershipRow). row.made + 2 * lasting == at) row false ≡ true

abbrev pub StandsAtEnd : ℕ → Queue → Text → Text → Option CertificationRow → Type 0
StandsAtEnd lasting q x y row = (at : ℕ) → q at (Certification x y) ≡ true → option_map_or (λ (row : CertificationRow). row.made + lasting == at) row false ≡ true

abbrev pub without_ends : ℕ → Text → Option MembershipRow → Queue → Queue
without_ends lasting k row q =
    option_map_or (λ (row : MembershipRow). without_entry (row.made + 2 * lasting) (Revocation k) (without_entry (row.made + lasting) (Membership k) q)) row q

abbrev pub without_end : ℕ → Text → Text → Option CertificationRow → Queue → Queue
without_end lasting x y row q = option_map_or (λ (row : CertificationRow). without_entry (row.made + lasting) (Certification x y) q) row q

-- what is entered, revoked or certified anew: cancelled at the ends of the row at hand, and planned where it is to come
abbrev pub entered_queue : ℕ → ℕ → ℕ → Text → Option MembershipRow → Queue → Queue
entered_queue now lasting made key row q =
    with_later now (made + 2 * lasting) (Revocation key) (with_later now (made + lasting) (Membership key) (without_ends lasting key row q))

abbrev pub revoked_queue : ℕ → Text → Option MembershipRow → Queue → Queue
revoked_queue lasting key row q = option_map_or (λ (row : MembershipRow). without_entry (row.made + 2 * lasting) (Revocation key) q) row q

abbrev pub certified_queue : ℕ → ℕ → ℕ → Text → Text → Option CertificationRow → Queue → Queue
certified_queue now lasting made from to row q = with_later now (made + lasting) (Certification from to) (without_end lasting from to row q)

-- so the queue changes at each entry as the definition of lines says
abbrev pub EnteringReplans : Type 0
EnteringReplans =
    (now lasting made : ℕ) (key : Text) (row : Option MembershipRow) (q : Queue) → StandsAtEnds lasting q key row
    → (at : ℕ) (due : Due) → entered_queue now lasting made key row q at due ≡ enter_entry now lasting made key at due (q at due)

abbrev pub RevokingReplans : Type 0
RevokingReplans =
    (lasting : ℕ) (key : Text) (row : Option MembershipRow) (q : Queue) → StandsAtEnds lasting q key row
    → (at : ℕ) (due : Due) → revoked_queue lasting key row q at due ≡ revoke_entry key due (q at due)

abbrev pub CertifyingReplans : Type 0
CertifyingReplans =
    (now lasting made : ℕ) (from to : Text) (row : Option CertificationRow) (q : Queue) → StandsAtEnd lasting q from to row
    → (at : ℕ) (due : Due) → certified_queue now lasting made from to row q at due ≡ certify_entry now lasting made from to at due (q at due)

-- before the block the queue stands at the ends of the rows
pub record FirstStand (c : Chain) (b : Block) : Type 0 where
  pub keys : (k : Text) → StandsAtEnds (lasting c b) (is_queued c) k (membership_row c k)
  pub pairs : (x y : Text) → StandsAtEnd (cert_lasting c b) (is_queued c) x y (certification_row c x y)

abbrev pub QueueStands : Type 0
QueueStands = (c : Chain) (b : Block) → IsSound c → FirstStand c b

-- and each line keeps it so
pub record LinesStand (lasting : ℕ) (q : Queue) : Type 0 where
  pub enters : (k : Text) (row : Option MembershipRow) → StandsAtEnds lasting q k row → (now : ℕ) (key : Text) (new : MembershipRow)
      → StandsAtEnds lasting (λ at due. enter_entry now lasting new.made key at due (q at due)) k (if same_text k key then Some new else row)
  pub leaves : (k : Text) (row : Option MembershipRow) → StandsAtEnds lasting q k row → (b : Block) (line : MemberLine) → StandsAtEnds lasting q k (leave_line b k row line)
  pub revokes : (k : Text) (row : Option MembershipRow) → StandsAtEnds lasting q k row → (line : RevokedLine)
      → StandsAtEnds lasting (λ at due. revoke_entry line.key due (q at due)) k (revoke_line k row line)
  pub certifies : (x y : Text) (row : Option CertificationRow) → StandsAtEnd lasting q x y row → (now : ℕ) (from to : Text) (new : CertificationRow)
      → StandsAtEnd lasting (λ at due. certify_entry now lasting new.made from to at due (q at due)) x y (if same_text x from && same_text y to then Some new else row)

abbrev pub EachLineStands : Type 0
EachLineStands = (lasting : ℕ) (q : Queue) → LinesStand lasting q

-- the row of the key of a line is still that of the chain when the line comes
abbrev pub RowIsOld : Type 0
RowIsOld =
    (c : Chain) (b : Block) → IsSound (b ∷ c) → (before after : List MemberLine) (line : MemberLine) → entering_lines b ≡ before ++ line ∷ after
    → fold (enter_line c b line.key) (membership_row c line.key) before ≡ membership_row c line.key

abbrev pub CertificationIsOld : Type 0
CertificationIsOld =
    (c : Chain) (b : Block) → IsSound (b ∷ c) → (before after : List CertLine) (line : CertLine) → b.certifications ≡ before ++ line ∷ after
    → fold (certify_line c b line.from line.to) (certification_row c line.from line.to) before ≡ certification_row c line.from line.to

-- who is at an end with a line: the lines put their keys into a set
abbrev pub over_line : Chain → Block → Text → Bool → MemberLine → Bool
over_line c b k is line = (is_of k line && (nat_le (membership_time c b line + lasting c b) (now_of c b) && not (expired c line.key))) || is

abbrev pub over_by_time_line : Chain → Block → Text → Bool → MemberLine → Bool
over_by_time_line c b k is line = (is_of k line && nat_le (membership_time c b line + 2 * lasting c b) (now_of c b)) || is

abbrev pub ended_line : Chain → Block → Text → Text → Bool → CertLine → Bool
ended_line c b x y is line = (of_pair x y line && (nat_le (certification_time c b line + cert_lasting c b) (now_of c b) && live c line.from line.to)) || is

pub record AtOnce (c : Chain) (b : Block) : Type 0 where
  pub over : (k : Text) → fold (over_line c b k) false (entering_lines b) ≡ is_over_at_once c b k
  pub revoked : (k : Text) → fold (over_by_time_line c b k) false (entering_lines b) ≡ is_revoked_at_once c b k
  pub ended : (x y : Text) → fold (ended_line c b x y) false b.certifications ≡ is_ended_at_once c b x y

abbrev pub AtOnceByLines : Type 0
AtOnceByLines = (c : Chain) (b : Block) → IsSound (b ∷ c) → AtOnce c b

-- what is due: entries leave one by one

-- it stood in the queue behind the lines, and stands there no more
abbrev pub is_gone : Chain → Block → Queue → ℕ → Due → Bool
is_gone c b q at due = queue_after_lines c b at due && not (q at due)

abbrev pub IsGone : Chain → Block → Queue → Due → Type 0
IsGone c b q due = (at : ℕ) × (is_gone c b q at due ≡ true)

abbrev pub revoked_where_gone : Chain → Block → Queue → Text → MembershipRow → MembershipRow
revoked_where_gone c b q k row = revoke_where (is_gone c b q (row.made + 2 * lasting c b) (Revocation k)) row

abbrev pub ended_where_gone : Chain → Block → Queue → Text → Text → CertificationRow → CertificationRow
ended_where_gone c b q x y row = end_where (is_gone c b q (row.made + cert_lasting c b) (Certification x y)) row

-- what the loop changes: the queue, the rows, and three sets, of whose membership is over, who is revoked by time and which pairs are ended
pub record Standing : Type 0 where
  pub queue : Queue
  pub memberships : Text → Option MembershipRow
  pub certifications : Text → Text → Option CertificationRow
  pub over : Text → Bool
  pub revoked : Text → Bool
  pub ended : Text → Text → Bool

-- the invariant: all of it is as the lines leave it, but for what is gone
pub record IsTaking (c : Chain) (b : Block) (s : Standing) : Type 0 where
  pub stood : (at : ℕ) (due : Due) → s.queue at due ≡ true → queue_after_lines c b at due ≡ true
  pub reached : (at : ℕ) (due : Due) → is_gone c b s.queue at due ≡ true → nat_le at (now_of c b) ≡ true
  pub memberships : (k : Text) → s.memberships k ≡ option_map (revoked_where_gone c b s.queue k) (membership_after_lines c b k (membership_row c k))
  pub certifications : (x y : Text) → s.certifications x y ≡ option_map (ended_where_gone c b s.queue x y) (certification_after_lines c b x y (certification_row c x y))
  pub over : (k : Text) → (s.over k ≡ true) ↔ ((is_over_at_once c b k ≡ true) ⊎ IsGone c b s.queue (Membership k))
  pub revoked : (k : Text) → (s.revoked k ≡ true) ↔ ((is_revoked_at_once c b k ≡ true) ⊎ IsGone c b s.queue (Revocation k))
  pub ended : (x y : Text) → (s.ended x y ≡ true) ↔ ((is_ended_at_once c b x y ≡ true) ⊎ IsGone c b s.queue (Certification x y))

-- it holds behind the lines
abbrev pub after_lines : Chain → Block → Standing
after_lines c b =
    record {
      queue = queue_after_lines c b;
      memberships = λ k. membership_after_lines c b k (membership_row c k);
      certifications = λ x y. certification_after_lines c b x y (certification_row c x y);
      over = is_over_at_once c b;
      revoked = is_revoked_at_once c b;
      ended = is_ended_at_once c b;
    }

abbrev pub TakingStarts : Type 0
TakingStarts = (c : Chain) (b : Block) → IsTaking c b (after_lines c b)

-- an entry leaves, its row changes, and its key or pair joins its set
abbrev pub take_membership : ℕ → Text → Standing → Standing
take_membership at k s = record s { queue = without_entry at (Membership k) s.queue; over = λ l. same_text l k || s.over l }

abbrev pub take_revocation : ℕ → Text → Standing → Standing
take_revocation at k s =
    record s {
      queue = without_entry at (Revocation k) s.queue;
      memberships = λ l. if same_text l k then option_map set_revoked (s.memberships l) else s.memberships l;
      revoked = λ l. same_text l k || s.revoked l;
    }

abbrev pub take_certification : ℕ → Text → Text → Standing → Standing
take_certification at x y s =
    record s {
      queue = without_entry at (Certification x y) s.queue;
      certifications = λ z w. if same_text z x && same_text w y then option_map set_ended (s.certifications z w) else s.certifications z w;
      ended = λ z w. (same_text z x && same_text w y) || s.ended z w;
    }

abbrev pub take : ℕ → Due → Standing → Standing
take at (Membership k) s = take_membership at k s
take at (Revocation k) s = take_revocation at k s
take at (Certification x y) s = take_certification at x y s

-- whether its set has the key or the pair
abbrev pub is_noted : Standing → Due → Bool
is_noted s (Membership k) = s.over k
is_noted s (Revocation k) = s.revoked k
is_noted s (Certification x y) = s.ended x y

-- an entry that is due: the invariant stays, and the key or pair was not in the set, so that each turn makes one record more
abbrev pub TakingGoesOn : Type 0
TakingGoesOn =
    (c : Chain) (b : Block) → IsSound (b ∷ c) → (s : Standing) → IsTaking c b s
    → (at : ℕ) (due : Due) → s.queue at due ≡ true → nat_le at (now_of c b) ≡ true
    → IsTaking c b (take at due s) × (is_noted s due ≡ false)

-- where nothing more is due, the tables are those of the chain with the block, and the sets say of whom there is a record
pub record HasTaken (c : Chain) (b : Block) (s : Standing) : Type 0 where
  pub queue : (at : ℕ) (due : Due) → s.queue at due ≡ is_queued (b ∷ c) at due
  pub memberships : (k : Text) → s.memberships k ≡ membership_row (b ∷ c) k
  pub certifications : (x y : Text) → s.certifications x y ≡ certification_row (b ∷ c) x y
  pub over : (k : Text) → (s.over k ≡ true) ↔ Expires c b k
  pub revoked : (k : Text) → (s.revoked k ≡ true) ↔ RevokedInTime c b k
  pub ended : (x y : Text) → (s.ended x y ≡ true) ↔ Ends c b x y

abbrev pub TakingEnds : Type 0
TakingEnds =
    (c : Chain) (b : Block) → IsSound (b ∷ c) → (s : Standing) → IsTaking c b s
    → ((at : ℕ) (due : Due) → s.queue at due ≡ true → nat_le at (now_of c b) ≡ false) → HasTaken c b s

-- who is to be excluded: gone through by the records of the block

abbrev pub kicked_record : Chain → Block → Text → Bool → Record → Bool
kicked_record c b k is record' =
    if touches k record' then kicked_by (params (b ∷ c)) (now_of c b) (received (b ∷ c) k) (identity_row (b ∷ c) k) (membership_row (b ∷ c) k) else is

abbrev pub KickedFold : Type 0
KickedFold =
    (c : Chain) (b : Block) → IsSound (b ∷ c) → (k : Text) → fold (kicked_record c b k) (is_to_be_excluded c k) (people_records c b) ≡ is_to_be_excluded (b ∷ c) k
