-- What becomes of the value at a key of a table, and what a table needs so that it cannot be refused.
use Rattle.std.specs.Prelude.{◌≡◌, ℕ, ◌+◌, ◌-◌, ◌≤◌, cond, List, Option, None, Some, ⊤}
use Rattle.std.specs.BTreeMap.{is_at}
use Rattle.std.specs.declared.cmp.Ordering.{Ordering}
use Rattle.dubp_undo.specs.MovingTable.{MovingTable, get, IsPlaced}
use Rattle.dubp_cindex.specs.declared.changing.Change.{Change}
use Rattle.dubp_cindex.specs.declared.changing.Change.TheVariants.{Stays, Becomes}

module _ {V : Type 0} where
  abbrev pub changed : Change V → Option V → Option V
  changed Stays was = was
  changed (Becomes value) was = value

  -- how many sets it takes
  abbrev pub sets_of : Change V → ℕ
  sets_of Stays = 0
  sets_of (Becomes value) = 1

module _ {K V : Type 0} (cmp : K → K → Ordering) where
  -- n is m, with the value at the key k changed
  abbrev pub Makes : List (K × V) → List (K × V) → K → Change V → Type 0
  Makes m n k change = (q : K) → get cmp n q ≡ cond (is_at (cmp q) k) (changed change (get cmp m k)) (get cmp m q)

  -- the key is placed, and there is room for one set, where there is one
  abbrev pub IsReady : MovingTable K V → K → Change V → Type 0
  IsReady t k Stays = ⊤
  IsReady t k (Becomes value) = IsPlaced cmp k t.placed × (1 ≤ t.room)

-- a count behind a pair's change: one more where it is live now, one less where it is no more
abbrev pub counted : Change (Unit {0}) → ℕ → ℕ
counted Stays n = n
counted (Becomes None) n = n - 1
counted (Becomes (Some live)) n = n + 1

-- how many keys are set in all, the row included
abbrev pub sets_in : {V : Type 0} → Change (Unit {0}) → Change ℕ → Change V → ℕ
sets_in pair received issuer = 1 + ((sets_of pair + sets_of received) + sets_of issuer)
