-- Keys by their numbers: what is known of a web keeps a key once, and names it by its number. Protocol: distance.
use Rattle.std.specs.Prelude.{◌≡◌, ℕ, ◌<◌, ◌≤◌, Bool, false, List, [], Option, None, Some, IfSome, Vec, slice_get, get_or, length, map, nat_eq}
use Rattle.std.specs.Global.{Global}
use Rattle.std.specs.List.{list_any}
use Rattle.dubp_atoms.specs.Same.{Text}
use Rattle.dubp_wot.specs.Search.{In}

-- the keys that a search came by, each at its number, and by number the numbers of the members who certify it, where they were asked for
pub record Numbered : Type 0 where
  pub keys : List Text
  pub issuers : List (Option (Vec ℕ Global))

-- the key with this number
abbrev pub name : List Text → ℕ → Text
name keys n = get_or keys n []

-- the keys with these numbers
abbrev pub named : List Text → List ℕ → List Text
named keys numbers = map (name keys) numbers

-- each is the number of one of so many keys
abbrev pub AreBelow : ℕ → List ℕ → Type 0
AreBelow size numbers = (n : ℕ) → In numbers n → n < size

-- the numbers that stand by number are those of keys
abbrev pub AreNumbers : List Text → List (Option (Vec ℕ Global)) → Type 0
AreNumbers keys issuers = (i : ℕ) → IfSome (get_or issuers i None) (λ numbers. (i < length keys) × AreBelow (length keys) numbers.items)

-- keys were added at the end, so each kept its number
pub record Keeps (old new : List Text) : Type 0 where
  pub longer : length old ≤ length new
  pub keeps : (i : ℕ) (k : Text) → slice_get old i ≡ Some k → slice_get new i ≡ Some k

-- the marks are those of the numbers
abbrev pub AreMarked : List ℕ → List Bool → Type 0
AreMarked numbers marks = (n : ℕ) → get_or marks n false ≡ list_any (nat_eq n) numbers
