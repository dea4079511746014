-- The last block of each issuer, by the place of that block, and for each block the one that its issuer issued before.
use Rattle.std.specs.Prelude.{◌≡◌, ℕ, List, [], ◌∷◌, Option, None, Some, if◌then◌else◌, length, reverse, count_by}
use Rattle.std.specs.Option.{is_none}
use Rattle.std.specs.Map.{lookup}
use Rattle.dubp_atoms.specs.Same.{Text, same_text}

-- what contracts see: the pairs of an issuer and the place of his last block, for each block the place of his block before it, oldest
-- first, and for how many blocks there is room
pub record IssuersState : Type 0 where
  pub last : List (Text × ℕ)
  pub before : List (Option ℕ)
  pub room : ℕ

-- of issuers, newest first: the place of the last block of the key, counted from the oldest
abbrev pub last_place : List Text → Text → Option ℕ
last_place [] k = None
last_place (i ∷ is) k = if same_text k i then Some (length is) else last_place is k

-- of issuers, newest first: the place of the last block of some key
pub record IsLastOfSome (issuers : List Text) (last : Option ℕ) : Type 0 where
  pub key : Text
  pub is : last ≡ last_place issuers key

-- of issuers, newest first: for each block the place of the block that its issuer issued before
abbrev pub places_before : List Text → List (Option ℕ)
places_before [] = []
places_before (i ∷ is) = last_place is i ∷ places_before is

-- these are of the issuers, newest first
pub record AreIssuers (s : IssuersState) (issuers : List Text) : Type 0 where
  pub last : (k : Text) → lookup (same_text k) s.last ≡ last_place issuers k
  pub before : s.before ≡ reverse (places_before issuers)
  -- an issuer has as many first blocks as entries: one
  pub count : length s.last ≡ count_by is_none s.before
