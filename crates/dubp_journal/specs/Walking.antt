-- What contracts see of a walk over a table in the order of its keys, and what of the table is left for it.
use Rattle.std.specs.Prelude.{◌≡◌, ℕ, List, Option, IsSome, MatchOption}
use Rattle.std.specs.List.Sorted.{IsStrictlySortedBy}
use Rattle.std.specs.Map.{keys_of}
use Rattle.std.specs.declared.cmp.Ordering.{Ordering}
use Rattle.std.specs.declared.ops.Bound.{Bound}
use Rattle.std.specs.declared.ops.Bound.TheVariants.{Excluded}
use Rattle.std.specs.BTreeMap.Range.{IsFromStart}
use Rattle.dubp_journal.specs.MovingTable.{get, IsLeast, HasNone}
use Rattle.dubp_journal.specs.Slots.{held}

-- A walk:
--     map     the map that it walks over
--     from    the bound from which it goes on
pub record Walking (K V : Type 0) : Type 0 where
  pub map : List (K × V)
  pub from : Bound K

-- ---- These words mirror the code.

-- the rest of a walk, each key with its slot: the keys rise and have P, and each key that has P has the value that its slot here holds
pub record IsRest {K V : Type 0} (cmp : K → K → Ordering) (P : K → Type 0) (value : K → Option V) (slots : List (Option V)) (rest : List (K × ℕ)) : Type 0 where
  pub rises : IsStrictlySortedBy cmp (keys_of rest)
  pub within : (q : K) → IsSome (get cmp rest q) → P q
  pub is : (q : K) → P q → value q ≡ held slots (get cmp rest q)

module _ {K V : Type 0} (cmp : K → K → Ordering) where
  -- the rest of this walk
  abbrev pub IsLeft : Walking K V → List (Option V) → List (K × ℕ) → Type 0
  IsLeft w slots rest = IsRest cmp (IsFromStart cmp w.from) (get cmp w.map) slots rest

  -- the next entry of the walk, and the rest behind it; or nothing, where the walk has no entry more
  abbrev pub IsStep : Walking K V → List (Option V) → List (K × ℕ) → Option (K × V) → Type 0
  IsStep w slots rest found =
      MatchOption found
      (HasNone cmp w.map (IsFromStart cmp w.from) × IsLeft w slots rest)
      (λ e. IsLeast cmp w.map (IsFromStart cmp w.from) e × IsLeft (record { map = w.map; from = Excluded e.0 }) slots rest)
