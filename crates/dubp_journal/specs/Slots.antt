-- How a table keeps its keys: each placed key has a slot, and a map is what the slots hold. These words mirror the code.
use Rattle.std.specs.Prelude.{◌≡◌, ℕ, true, List, [], ◌∷◌, ◌++◌, length, Option, None, Some, IsSome, get_or, ◌⊎◌}
use Rattle.std.specs.declared.cmp.Ordering.{Ordering}
use Rattle.std.specs.declared.ops.Bound.{Bound}
use Rattle.std.specs.BTreeMap.{is_at}
use Rattle.std.specs.BTreeMap.Range.{IsFromStart, IsLeBy}

module _ {K : Type 0} where
  -- the keys that have slots, in the order of these
  abbrev pub keys_in : List (Option K) → List K
  keys_in [] = []
  keys_in (None ∷ keys) = keys_in keys
  keys_in (Some k ∷ keys) = k ∷ keys_in keys

  -- the slot that is found for a key is the one that has it, and equal keys have one slot
  pub record Finds (cmp : K → K → Ordering) (slot_of : K → Option ℕ) (keys : List (Option K)) : Type 0 where
    pub found : (i : ℕ) (k : K) → get_or keys i None ≡ Some k → slot_of k ≡ Some i
    pub has : (q : K) (i : ℕ) → slot_of q ≡ Some i → (k : K) × (get_or keys i None ≡ Some k) × (is_at (cmp q) k ≡ true)
    pub alike : (q k : K) → is_at (cmp q) k ≡ true → slot_of q ≡ slot_of k

-- what a slot holds, if there is one
abbrev pub held : {V : Type 0} → List (Option V) → Option ℕ → Option V
held slots None = None
held slots (Some i) = get_or slots i None

-- e is the least key from a bound on whose slot holds something, with that
pub record IsFirstHeld {K V : Type 0} (cmp : K → K → Ordering) (slot_of : K → Option ℕ) (slots : List (Option V)) (from : Bound K) (e : K × V) : Type 0 where
  pub within : IsFromStart cmp from e.0
  pub has : held slots (slot_of e.0) ≡ Some e.1
  pub least : (q : K) → IsFromStart cmp from q → IsSome (held slots (slot_of q)) → IsLeBy cmp e.0 q

-- the slot of no key from a bound on holds anything
abbrev pub HasNoneHeld : {K V : Type 0} → (K → K → Ordering) → (K → Option ℕ) → List (Option V) → Bound K → Type 0
HasNoneHeld {K} cmp slot_of slots from = (q : K) → IsFromStart cmp from q → held slots (slot_of q) ≡ None

-- a slot that holds nothing, and that no change names
pub record IsDead {V : Type 0} (uses : List ℕ) (slots : List (Option V)) (i : ℕ) : Type 0 where
  pub nothing : get_or slots i None ≡ None
  pub unnamed : get_or uses i 0 ≡ 0

module _ {K V : Type 0} where
  -- an entry in front of the others, where the slot has a key and a value
  abbrev pub entry : Option K → Option V → List (K × V) → List (K × V)
  entry None v rest = rest
  entry (Some k) None rest = rest
  entry (Some k) (Some v) rest = (k, v) ∷ rest

  -- the map that the slots hold
  abbrev pub live : List (Option K) → List (Option V) → List (K × V)
  live [] slots = []
  live (k ∷ keys) [] = []
  live (k ∷ keys) (v ∷ slots) = entry k v (live keys slots)

  -- all is as it was, or there is one slot more, which has no key and holds nothing
  abbrev pub HasOneMore : List (Option K) → List ℕ → List (Option V) → List (Option K) → List ℕ → List (Option V) → Type 0
  HasOneMore keys uses slots keys' uses' slots' = ((keys' ≡ keys) × (uses' ≡ uses) × (slots' ≡ slots)) ⊎ ((keys' ≡ keys ++ None ∷ []) × (uses' ≡ uses ++ 0 ∷ []) × (slots' ≡ slots ++ None ∷ []))

  -- there may be one slot more, with nothing in it; what is found is found of the new keys, which are those of before but in new slots
  pub record Widens (cmp : K → K → Ordering) (New : ℕ → Type 0) (keys : List (Option K)) (uses : List ℕ) (slots : List (Option V)) (keys' : List (Option K)) (slot_of' : K → Option ℕ) (uses' : List ℕ) (slots' : List (Option V)) : Type 0 where
    pub finds : Finds cmp slot_of' keys'
    pub keys_each : length keys' ≡ length slots'
    pub uses_each : length uses' ≡ length slots'
    pub grown : (slots' ≡ slots) ⊎ (slots' ≡ slots ++ None ∷ [])
    pub same_uses : (x : ℕ) → get_or uses' x 0 ≡ get_or uses x 0
    pub others : (x : ℕ) → (get_or keys' x None ≡ get_or keys x None) ⊎ (New x × (get_or keys x None ≡ None))

  -- k has the slot i: the one that it had, or one that had no key
  pub record Grows (cmp : K → K → Ordering) (keys : List (Option K)) (slot_of : K → Option ℕ) (uses : List ℕ) (slots : List (Option V)) (k : K) (keys' : List (Option K)) (slot_of' : K → Option ℕ) (uses' : List ℕ) (slots' : List (Option V)) (i : ℕ) : Type 0 where
    pub wider : Widens cmp (λ x. x ≡ i) keys uses slots keys' slot_of' uses' slots'
    pub has : slot_of' k ≡ Some i
    pub stay : (q : K) → IsSome (slot_of q) → IsSome (slot_of' q)
    pub only : (q : K) → IsSome (slot_of' q) → (is_at (cmp q) k ≡ true) ⊎ IsSome (slot_of q)

  -- the keys of some slots are given up that hold nothing and that no change names
  pub record GivesUp (cmp : K → K → Ordering) (uses : List ℕ) (slots : List (Option V)) (keys : List (Option K)) (slot_of : K → Option ℕ) (keys' : List (Option K)) (slot_of' : K → Option ℕ) : Type 0 where
    pub finds : Finds cmp slot_of' keys'
    pub same_length : length keys' ≡ length keys
    pub others : (x : ℕ) → (get_or keys' x None ≡ get_or keys x None) ⊎ IsDead uses slots x
    pub dead : (i : ℕ) → get_or keys' i None ≡ None → (get_or keys i None ≡ None) ⊎ IsDead uses slots i
    pub only : (q : K) → IsSome (slot_of' q) → IsSome (slot_of q)
