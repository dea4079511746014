-- The least of many slots, of which some hold nothing, where each value has a measure.
use Rattle.std.specs.Prelude.{◌≡◌, ℕ, ◌<◌, ◌≤◌, List, get_or, Option, None, Some}

-- the slot i holds a value with the least measure, and no slot before it holds one with the same
pub record IsLeast {V : Type 0} (measure : V → ℕ) (values : List (Option V)) (i : ℕ) : Type 0 where
  pub value : V
  pub has : get_or values i None ≡ Some value
  pub least : (j : ℕ) (w : V) → get_or values j None ≡ Some w → measure value ≤ measure w
  pub first : (j : ℕ) (w : V) → j < i → get_or values j None ≡ Some w → measure value < measure w

-- no slot holds anything
abbrev pub HasNone : {V : Type 0} → List (Option V) → Type 0
HasNone values = (j : ℕ) → get_or values j None ≡ None
