-- A place for each of some keys, as a list of pairs in the order of the keys.
use Rattle.std.specs.Prelude.{◌≡◌, ℕ, ◌<◌, ◌≤◌, List, [], length, slice_index_or}
use Rattle.std.specs.declared.cmp.Ordering.TheVariants.{Less, Greater}
use Rattle.std.specs.Cmp.Lexicographic.{slice_cmp}
use Rattle.std.specs.Ordering.{nat_cmp}
use Rattle.dubp_atoms.specs.Same.{Text}

-- what contracts see: the pairs of a key and its place, and how many fit without memory
pub record PlacesState : Type 0 where
  pub entries : List (Text × ℕ)
  pub capacity : ℕ

-- the key of the pair at index i
abbrev pub key_at : List (Text × ℕ) → ℕ → Text
key_at es i = let pair = slice_index_or es i ([], 0) in pair.0

-- the keys rise, so no key comes twice
abbrev pub IsRising : List (Text × ℕ) → Type 0
IsRising es = (i j : ℕ) → i < j → j < length es → slice_cmp nat_cmp (key_at es i) (key_at es j) ≡ Less

-- the pair at index i has the key
pub record IsAt (es : List (Text × ℕ)) (key : Text) (i : ℕ) : Type 0 where
  pub in_range : i < length es
  pub has_key : key_at es i ≡ key

-- the key would go at index i: smaller keys before it, and greater keys from it on
pub record IsGapFor (es : List (Text × ℕ)) (key : Text) (i : ℕ) : Type 0 where
  pub in_range : i ≤ length es
  pub smaller_before : (j : ℕ) → j < i → slice_cmp nat_cmp (key_at es j) key ≡ Less
  pub greater_after : (j : ℕ) → i ≤ j → j < length es → slice_cmp nat_cmp (key_at es j) key ≡ Greater
