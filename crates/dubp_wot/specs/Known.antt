-- What is known of who certifies whom. Protocol: distance.
use Rattle.std.specs.Prelude.{◌↔◌, ℕ, Bool, List, None, IfSome, filter, get_or}
use Rattle.std.specs.List.{Contains, list_any}
use Rattle.dubp_atoms.specs.Same.{Text, same_text}
use Rattle.dubp_wot.specs.Numbers.{Numbered, name, named}
use Rattle.dubp_wot.specs.Search.{In}

-- whether the key is one of these
abbrev pub is_among : List Text → Text → Bool
is_among keys k = list_any (same_text k) keys

-- those of the keys who are members, in their order
abbrev pub members_among : List Text → List Text → List Text
members_among members keys = filter (is_among members) keys

-- these are the members who certify the key
abbrev pub AreIssuersOf : List Text → List (Text × Text) → Text → List Text → Type 0
AreIssuersOf members pairs to keys = (a : Text) → Contains keys a ↔ (Contains members a × Contains pairs (a, to))

-- each key that has a number is a member; where the issuers of a key are known, they are the members who certify it
pub record KnowIssuers (members : List Text) (pairs : List (Text × Text)) (known : Numbered) : Type 0 where
  pub are_members : (k : Text) → In known.keys k → Contains members k
  pub are_issuers : (i : ℕ) → IfSome (get_or known.issuers i None) (λ numbers. AreIssuersOf members pairs (name known.keys i) (named known.keys numbers.items))
