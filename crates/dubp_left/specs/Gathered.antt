-- The map of what stands at some keys.
use Rattle.std.specs.Prelude.{List, [], ◌∷◌, Option, None, Some}
use Rattle.std.specs.declared.cmp.Ordering.{Ordering}
use Rattle.std.specs.FinMap.{FinMap, from_entries}

module _ {K X : Type 0} where
  -- an entry, where something stands
  abbrev pub entry_of : K → Option X → List (K × X) → List (K × X)
  entry_of k None rest = rest
  entry_of k (Some x) rest = (k, x) ∷ rest

  -- what f has at each of the keys
  abbrev pub gathered : (K → Option X) → List K → List (K × X)
  gathered f [] = []
  gathered f (k ∷ ks) = entry_of k (f k) (gathered f ks)

  -- the map of it, in the order R
  abbrev pub table_of : (R : K → K → Ordering) → (K → Option X) → List K → FinMap R X
  table_of R f ks = from_entries (gathered f ks)
