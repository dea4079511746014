-- The sizes of the blocks of a chain, summed up. This mirrors the code.
use Rattle.std.specs.Prelude.{◌≡◌, ◌^◌, ◌<◌, ℕ, List, [], ◌∷◌, reverse, sum_by}
use Rattle.std.specs.List.{AllByRecursion}
use Rattle.dubp_chain.specs.declared.head.Head.{Head}

-- what contracts see: for each block, oldest first, the size of it and of those before it together; and for how many blocks there is room
pub record SizesState : Type 0 where
  pub totals : List ℕ
  pub room : ℕ

-- the size of the blocks with these heads together
abbrev pub total_of : List Head → ℕ
total_of hs = sum_by (λ h. h.size) hs

-- of heads, newest first: for each the total of it and of those before it
abbrev pub totals_of : List Head → List ℕ
totals_of [] = []
totals_of (h ∷ hs) = total_of (h ∷ hs) ∷ totals_of hs

-- the totals are those of these heads, newest first
pub record AreTotals (s : SizesState) (hs : List Head) : Type 0 where
  pub are : s.totals ≡ reverse (totals_of hs)
  pub each : AllByRecursion (λ h. h.size < 2 ^ 64) hs
