-- The kept maps as others see them: the last first, each with how many keys were set to it from the one before it.
use Rattle.std.proofs.Common.{ℕ, List, [], ◌∷◌, ◌++◌}
use Rattle.dubp_journal.specs.MovingTable.{MovingTable}
use Rattle.dubp_moving.specs.Others.{Others}

module _ {M : Type 0} where
  -- n keys were set to the oldest
  abbrev pub turned : ℕ → List (M × ℕ) → List (M × ℕ)
  turned n [] = []
  turned n (x ∷ xs) = turned x.1 xs ++ (x.0, n) ∷ []

  -- how many keys were set since the last, or n where there is none
  abbrev pub last_from : ℕ → List (M × ℕ) → ℕ
  last_from n [] = n
  last_from n (x ∷ xs) = last_from x.1 xs

module _ {K V : Type 0} where
  -- the states beside the one that the table has now
  abbrev pub others_of : MovingTable K V → Others (List (K × V))
  others_of t = record { kept = turned t.first t.past; ahead = t.ahead; root = t.root }

  -- how many keys were set to the state now
  abbrev pub count_of : MovingTable K V → ℕ
  count_of t = last_from t.first t.past
