-- What stands in the tables and in the sets of records while what is due is taken. Protocol: tables, records.
use Rattle.std.specs.Prelude.{◌≡◌, ◌↔◌, ℕ, true, Bool, List, Option, Some, None, option_map, ⊤}
use Rattle.std.specs.BTreeSet.{contains}
use Rattle.dubp_atoms.specs.Same.{Text}
use Rattle.dubp_moving.specs.States.{states}
use Rattle.dubp_block.specs.declared.block.Block.{Block}
use Rattle.dubp_chain.specs.Chains.{Chain}
use Rattle.dubp_chain.specs.Heads.{head_of}
use Rattle.dubp_mindex.specs.Members.{Members}
use Rattle.dubp_cindex.specs.Rows.{Rows}
use Rattle.dubp_expiry.specs.Entries.{Queued, IsBehind}
use Rattle.dubp_expiry.specs.declared.due.Due.{Due as DueValue}
use Rattle.dubp_expiry.specs.declared.due.Behind.{Behind}
use Rattle.dubp_left.specs.Left.{due_of, memberships_left, certifications_left, queue_left}
use Rattle.dubp_steps.specs.Ordered.{text_cmp, pair_cmp}
use Rattle.dubp_steps.specs.Taken.{Expires, RevokedInTime, Ends}
use Rattle.dubp_steps.specs.Loops.{Standing, IsTaking, HasTaken}
use Rattle.dubp_people_apply.specs.declared.ended.Ended.{Ended}
use Rattle.dubp_people_apply.specs.Held.{Waiting, HasMemberships, HasCertifications, HasEntries}

-- the time of the chain; the empty chain has none
abbrev pub IsSince : Chain → Option ℕ → Type 0
IsSince c since = since ≡ option_map (λ h. h.median_time) (head_of c)

-- of whom there is a record
pub record AreNoted (sets : Ended) (is_over is_revoked : Text → Bool) (is_ended : Text → Text → Bool) : Type 0 where
  pub over : (k : Text) → contains text_cmp sets.expired k ≡ is_over k
  pub revoked : (k : Text) → contains text_cmp sets.revoked k ≡ is_revoked k
  pub ended : (x y : Text) → contains pair_cmp sets.ended (x, y) ≡ is_ended x y

-- the tables and the sets are these
pub record StandAs (M : List Members → Type 0) (C : List Rows → Type 0) (Q : List Queued → Type 0) (ended : Ended) (s : Standing) : Type 0 where
  pub queue : HasEntries Q s.queue
  pub memberships : HasMemberships M s.memberships
  pub certifications : HasCertifications C s.certifications
  pub sets : AreNoted ended s.over s.revoked s.ended

-- the place where a search begins: before all entries, where there is none
abbrev pub IsBehindAny : Option Behind → ℕ × DueValue → Type 0
IsBehindAny None e = ⊤
IsBehindAny (Some place) e = IsBehind place e

-- each entry stands behind the place
abbrev pub AllBehind : Option Behind → Waiting → Type 0
AllBehind place waiting = (time : ℕ) (due : DueValue) → waiting time (due_of due) ≡ true → IsBehindAny place (time, due)

-- what is due is taken: the tables are those of the chain with the block, and the sets say of whom there is a record
pub record HasAllTaken (c : Chain) (b : Block) (M : List Members → Type 0) (C : List Rows → Type 0) (Q : List Queued → Type 0) (sets : Ended) : Type 0 where
  pub standing : Standing
  pub stand : StandAs M C Q sets standing
  pub taken : HasTaken c b standing

-- on the way there
pub record IsOnTheWay (c : Chain) (b : Block) (M : List Members → Type 0) (C : List Rows → Type 0) (Q : List Queued → Type 0) (sets : Ended) (place : Option Behind) : Type 0 where
  pub standing : Standing
  pub stand : StandAs M C Q sets standing
  pub taking : IsTaking c b standing
  pub behind : AllBehind place standing.queue

-- of these there is a record that no line names
pub record AreRecorded (c : Chain) (b : Block) (sets : Ended) : Type 0 where
  pub over : (k : Text) → (contains text_cmp sets.expired k ≡ true) ↔ Expires c b k
  pub revoked : (k : Text) → (contains text_cmp sets.revoked k ≡ true) ↔ RevokedInTime c b k
  pub ended : (x y : Text) → (contains pair_cmp sets.ended (x, y) ≡ true) ↔ Ends c b x y

-- the tables are those that the chain leaves
pub record AreLeftBy (c : Chain) (M : List Members → Type 0) (C : List Rows → Type 0) (Q : List Queued → Type 0) : Type 0 where
  pub memberships : M (states memberships_left c)
  pub certifications : C (states certifications_left c)
  pub queue : Q (states queue_left c)
