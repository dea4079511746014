-- How many keys a block sets at most in each index, and how many steps that takes. Protocol: tables, records.
use Rattle.std.specs.Prelude.{◌≡◌, ℕ, ◌+◌, ◌*◌, ◌≤◌, length}
use Rattle.std.specs.BTreeSet.{btree_set_len}
use Rattle.dubp_block.specs.declared.block.Block.{Block}
use Rattle.dubp_chain.specs.Chains.{Chain}
use Rattle.dubp_chain.specs.Tables.{Due}
use Rattle.dubp_chain.specs.Tables.Due.{Membership, Revocation, Certification}
use Rattle.dubp_validity.specs.Records.{expiry_records, revocation_records, ended_records}
use Rattle.dubp_steps.specs.Steps.{people_records}
use Rattle.dubp_people_apply.specs.declared.ended.Ended.{Ended}

-- a line of Joiners, Actives, Leavers or Revoked sets the row of its key, and so does a record of a revocation by time
abbrev pub membership_sets : Chain → Block → ℕ
membership_sets c b = length b.joiners + length b.actives + length b.leavers + length b.revoked + length (revocation_records c b)

-- a certification that begins or ends sets at most five keys
abbrev pub certification_sets : Chain → Block → ℕ
certification_sets c b = 5 * length b.certifications + 5 * length (ended_records c b)

-- a membership made anew cancels two entries and plans two, a certification one and one; and each record of an end takes one
abbrev pub queue_sets : Chain → Block → ℕ
queue_sets c b =
    4 * (length b.joiners + length b.actives) + length b.revoked + 2 * length b.certifications
    + (length (expiry_records c b) + (length (revocation_records c b) + length (ended_records c b)))

-- a line of Joiners, Actives, Revoked or Excluded names a key that may have to be excluded with it or have to be no more, and so does a certification
abbrev pub touching_lines : Block → ℕ
touching_lines b = length b.joiners + length b.actives + length b.revoked + length b.excluded + length b.certifications

-- With at most four keys of the identities for each line of Identities, Joiners and Excluded, at most one key of the table of who is to be
-- excluded for each record, and two of the facts, a block sets at most eight keys for each record on people, and eight.
abbrev pub SetsFit : Type 0
SetsFit =
    (c : Chain) (b : Block) (kicked : ℕ) → kicked ≤ length (people_records c b)
    → 4 * (length b.identities + length b.joiners + length b.excluded) + (membership_sets c b + certification_sets c b + queue_sets c b) + kicked + 2 ≤ 8 * length (people_records c b) + 8

-- What follows says on the way there how many steps are taken, where the sets of the records grow.

-- which set an entry that is taken joins
abbrev pub expired_by : Due → ℕ
expired_by (Membership k) = 1
expired_by (Revocation k) = 0
expired_by (Certification x y) = 0

abbrev pub revoked_by : Due → ℕ
revoked_by (Membership k) = 0
revoked_by (Revocation k) = 1
revoked_by (Certification x y) = 0

abbrev pub ended_by : Due → ℕ
ended_by (Membership k) = 0
ended_by (Revocation k) = 0
ended_by (Certification x y) = 1

pub record IsOneMore (due : Due) (old new : Ended) : Type 0 where
  pub expired : btree_set_len new.expired ≡ btree_set_len old.expired + expired_by due
  pub revoked : btree_set_len new.revoked ≡ btree_set_len old.revoked + revoked_by due
  pub ended : btree_set_len new.ended ≡ btree_set_len old.ended + ended_by due

-- so many steps were taken, where the sets grew by so many
pub record IsCounted (old new : Ended) (steps steps' : ℕ) : Type 0 where
  pub expired : ℕ
  pub revoked : ℕ
  pub ended : ℕ
  pub are_expired : btree_set_len new.expired ≡ btree_set_len old.expired + expired
  pub are_revoked : btree_set_len new.revoked ≡ btree_set_len old.revoked + revoked
  pub are_ended : btree_set_len new.ended ≡ btree_set_len old.ended + ended
  pub most : steps' ≤ steps + (expired + (2 * revoked + 6 * ended))

-- the lines, and what was taken behind them
abbrev pub IsWithin : Block → Ended → ℕ → ℕ → Type 0
IsWithin b sets steps steps' =
    steps' ≤ steps
    + (5 * (length b.joiners + length b.actives) + length b.leavers + 2 * length b.revoked + 7 * length b.certifications
    + (btree_set_len sets.expired + (2 * btree_set_len sets.revoked + 6 * btree_set_len sets.ended)))

-- the sets are as long as the lists of records
pub record HasLengths (c : Chain) (b : Block) (sets : Ended) : Type 0 where
  pub expired : btree_set_len sets.expired ≡ length (expiry_records c b)
  pub revoked : btree_set_len sets.revoked ≡ length (revocation_records c b)
  pub ended : btree_set_len sets.ended ≡ length (ended_records c b)
