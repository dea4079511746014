-- What the walk over the members and the search by levels keep: the contracts of the public functions name none of these.
-- A key in a list is spoken of by its place. Protocol: distance.
use Rattle.std.specs.Prelude.{◌≡◌, ℕ, ◌<◌, ◌≤◌, ◌⊎◌, not, List, Option, Some, slice_get, length, filter}
use Rattle.std.specs.List.{Contains}
use Rattle.dubp_atoms.specs.Same.{Text}
use Rattle.dubp_atoms.specs.Walks.{Reaches}
use Rattle.dubp_wot.specs.Order.{is_above}

-- the keys up to the one that was last taken
abbrev pub up_to : Option Text → List Text → List Text
up_to after keys = filter (λ k. not (is_above after k)) keys

module _ {K : Type 0} where
  -- the key stands in the list
  abbrev pub In : List K → K → Type 0
  In keys a = (i : ℕ) × (slice_get keys i ≡ Some a)

  module _ (members : List K) (pairs : List (K × K)) where
    -- keys were added at the end, each a member who certifies a key that has From
    pub record Grows (From : K → Type 0) (old new : List K) : Type 0 where
      pub longer : length old ≤ length new
      pub keeps : (i : ℕ) (b : K) → slice_get old i ≡ Some b → slice_get new i ≡ Some b
      pub only : (a : K) → In new a → In old a ⊎ (Contains members a × ((b : K) × From b × Contains pairs (a, b)))

    -- each member who certifies one of the first n keys stands in the list
    pub record Closed (n : ℕ) (keys : List K) : Type 0 where
      pub has : (i : ℕ) (b a : K) → i < n → slice_get keys i ≡ Some b → Contains members a → Contains pairs (a, b) → In keys a

    -- the list has the keys that reach the target in n steps
    pub record Level (target : K) (n : ℕ) (keys : List K) : Type 0 where
      pub sound : (a : K) → In keys a → Reaches members pairs n a target
      pub complete : (a : K) → Reaches members pairs n a target → In keys a
