-- What the tables get where a row is put, and how many keys are set. Protocol: tables.
use Rattle.std.specs.Prelude.{◌≡◌, ℕ, ◌+◌, ◌-◌, ◌≤◌, ◌&&◌, Bool, true, false, not, cond, List, Option, None, Some, is_some, is_none, unwrap_or, if◌then◌else◌}
use Rattle.std.specs.Option.{option_map_or, IfSome}
use Rattle.std.specs.declared.cmp.Ordering.{Ordering}
use Rattle.dubp_atoms.specs.Same.{Text}
use Rattle.dubp_undo.specs.MovingTable.{MovingTable, Puts, IsPlaced}
use Rattle.dubp_iindex.specs.declared.row.IdentityRow.{IdentityRow}
use Rattle.dubp_iindex.specs.declared.row.Counts.{Counts}
use Rattle.dubp_iindex.specs.declared.writing.Writes.{Writes}

-- both or neither
abbrev pub same : Bool → Bool → Bool
same true b = b
same false b = not b

-- how many keys are set where a row is put over what stood at its key: the row; the uid of a new identity; the member where that
-- changes; the numbers where one of them changes
abbrev pub writes_of : Option IdentityRow → IdentityRow → ℕ
writes_of None row = if row.member then 4 else 3
writes_of (Some old) row = if same old.member row.member then 1 else 3

-- ---- these words mirror the code. A write is what a key gets: None where it is not set, else its new value, or None in it where it loses its value

module _ {V : Type 0} where
  -- how many keys are set by a write
  abbrev pub sets : Option (Option V) → ℕ
  sets None = 0
  sets (Some value) = 1

  -- the map n is m with what is written
  abbrev pub IsWritten : {K : Type 0} → (K → K → Ordering) → K → Option (Option V) → List (K × V) → List (K × V) → Type 0
  IsWritten cmp key None m n = n ≡ m
  IsWritten cmp key (Some value) m n = Puts cmp m n key value

module _ {K V : Type 0} (cmp : K → K → Ordering) (key : K) where
  -- the key can be set without memory
  pub record CanSet (table : MovingTable K V) : Type 0 where
    pub placed : IsPlaced cmp key table.placed
    pub room : 1 ≤ table.room

  -- where it is to be
  abbrev pub IsReady : Option (Option V) → MovingTable K V → Type 0
  IsReady write table = IfSome write (λ _. CanSet table)

-- whether a row stood there, and a member's
abbrev pub was_member : Option IdentityRow → Bool
was_member old = option_map_or (λ (row : IdentityRow). row.member) old false

-- a new identity's uid gets its key
abbrev pub uid_write : Option IdentityRow → Text → Option (Option Text)
uid_write old key = if is_some old then None else Some (Some key)

-- the key of a member comes or goes
abbrev pub member_write : Bool → Bool → Option (Option (Unit {0}))
member_write true true = None
member_write true false = Some None
member_write false true = Some (Some tt)
member_write false false = None

-- 1 where it is so, else 0
abbrev pub bit : Bool → ℕ
bit b = cond b 1 0

-- the numbers where the row is put over what stood at its key
abbrev pub counted : Counts → Option IdentityRow → IdentityRow → Counts
counted counts old row = record {
  identities = counts.identities + cond (is_some old) 0 1;
  members = (counts.members + bit row.member) - bit (was_member old);
}

-- the numbers where nothing is counted
abbrev pub no_counts : Counts
no_counts = record { identities = 0; members = 0 }

-- the numbers are set for a new identity, and where the member comes or goes
abbrev pub counts_write : Option Counts → Option IdentityRow → IdentityRow → Option (Option Counts)
counts_write before old row =
    if is_some old && is_none (member_write (was_member old) row.member) then None else Some (Some (counted (unwrap_or before no_counts) old row))

-- all that a row that is put sets besides itself
pub record AreWrites (old : Option IdentityRow) (before : Option Counts) (key : Text) (row : IdentityRow) (writes : Writes) : Type 0 where
  pub uid : writes.uid ≡ uid_write old key
  pub member : writes.member ≡ member_write (was_member old) row.member
  pub counts : writes.counts ≡ counts_write before old row
