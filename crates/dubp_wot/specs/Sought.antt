-- The keys of which a search counts those that reach its target, by their numbers. Protocol: distance.
use Rattle.std.specs.Prelude.{◌≡◌, ℕ, not, List, count_by, get_or, length, nat_eq}
use Rattle.std.specs.List.{list_any}
use Rattle.dubp_atoms.specs.Same.{Text}
use Rattle.dubp_wot.specs.Known.{members_among}
use Rattle.dubp_wot.specs.Numbers.{Numbered, named, AreBelow}

-- keys, and the numbers of the members among them, in their order: a key that stands there twice has its number there twice
pub record SoughtKeys : Type 0 where
  pub keys : List Text
  pub numbers : List ℕ

-- the numbers are those that the members among the keys have in what is known
pub record AreSought (members : List Text) (known : Numbered) (sought : SoughtKeys) : Type 0 where
  pub within : AreBelow (length known.keys) sought.numbers
  pub are_members : named known.keys sought.numbers ≡ members_among members sought.keys

-- by number, how often each stands in the list
abbrev pub AreCounts : List ℕ → List ℕ → Type 0
AreCounts numbers counts = (n : ℕ) → get_or counts n 0 ≡ count_by (nat_eq n) numbers

-- how many of the numbers are not found
abbrev pub missing : List ℕ → List ℕ → ℕ
missing numbers found = count_by (λ n. not (list_any (nat_eq n) found)) numbers
