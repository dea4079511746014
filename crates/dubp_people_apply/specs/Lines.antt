-- What the tables have while the lines of a block are written: beside what stands at each key, the queue stands at the ends of the rows,
-- and the ends are small enough to be told. Protocol: people, certifications, tables.
use Rattle.std.specs.Prelude.{◌≡◌, ℕ, ◌+◌, ◌*◌, ◌<◌, ◌^◌, Bool, List, Option, option_map, fold, IfSome}
use Rattle.dubp_atoms.specs.Same.{Text}
use Rattle.dubp_block.specs.declared.block.Block.{Block}
use Rattle.dubp_chain.specs.Chains.{Chain}
use Rattle.dubp_chain.specs.Tables.{MembershipRow, CertificationRow, Due, is_queued}
use Rattle.dubp_mindex.specs.Members.{Members}
use Rattle.dubp_mindex.specs.declared.member.MemberRow.{MemberRow}
use Rattle.dubp_cindex.specs.Rows.{Rows}
use Rattle.dubp_cindex.specs.declared.row.CertRow.{CertRow}
use Rattle.dubp_expiry.specs.Entries.{Queued}
use Rattle.dubp_left.specs.Left.{member_entry, cert_entry}
use Rattle.dubp_steps.specs.AfterLines.{lasting, cert_lasting, enter_queue, revoke_queue}
use Rattle.dubp_steps.specs.Loops.{StandsAtEnds, StandsAtEnd}
use Rattle.dubp_people_apply.specs.Held.{Memberships, Certifications, Waiting, HasMemberships, HasCertifications, HasEntries}

-- both ends of a membership can be told
abbrev pub EndsAreSmall : ℕ → MembershipRow → Type 0
EndsAreSmall lasting row = row.made + 2 * lasting < 2 ^ 64

abbrev pub EndIsSmall : ℕ → CertificationRow → Type 0
EndIsSmall lasting row = row.made + lasting < 2 ^ 64

-- memberships and the queue
pub record Stands (c : Chain) (b : Block) (M : List Members → Type 0) (Q : List Queued → Type 0) (memberships : Memberships) (waiting : Waiting) : Type 0 where
  pub rows : HasMemberships M memberships
  pub queue : HasEntries Q waiting
  pub ends : (k : Text) → StandsAtEnds (lasting c b) waiting k (memberships k)
  pub small : (k : Text) → IfSome (memberships k) (EndsAreSmall (lasting c b))

-- certifications and the queue
pub record StandsCertified (c : Chain) (b : Block) (C : List Rows → Type 0) (Q : List Queued → Type 0) (certifications : Certifications) (waiting : Waiting) : Type 0 where
  pub rows : HasCertifications C certifications
  pub queue : HasEntries Q waiting
  pub ends : (x y : Text) → StandsAtEnd (cert_lasting c b) waiting x y (certifications x y)
  pub small : (x y : Text) → IfSome (certifications x y) (EndIsSmall (cert_lasting c b))

-- the row at hand of a key whose membership is made anew, and what stands at its ends
pub record IsReplaced (lasting made : ℕ) (key : Text) (row : Option MemberRow) (before : Option MembershipRow) (waiting : Waiting) : Type 0 where
  pub is : row ≡ option_map member_entry before
  pub ends : StandsAtEnds lasting waiting key before
  pub small : IfSome before (EndsAreSmall lasting)
  pub new_small : made + 2 * lasting < 2 ^ 64

-- the row at hand of a pair that is certified anew, and what stands at its end
pub record IsReplacedPair (lasting made : ℕ) (from to : Text) (row : Option CertRow) (before : Option CertificationRow) (waiting : Waiting) : Type 0 where
  pub is : row ≡ option_map cert_entry before
  pub ends : StandsAtEnd lasting waiting from to before
  pub small : IfSome before (EndIsSmall lasting)
  pub new_small : made + lasting < 2 ^ 64

-- the queue behind the lines of memberships
abbrev pub queue_after_memberships : Chain → Block → ℕ → Due → Bool
queue_after_memberships c b at due = fold (revoke_queue due) (fold (enter_queue c b at due) (fold (enter_queue c b at due) (is_queued c at due) b.joiners) b.actives) b.revoked
