-- The orders of keys and of pairs of keys, and the next of some keys. Protocol: certifications, tables.
use Rattle.std.specs.Prelude.{◌≡◌, Bool, true, false, List, [], ◌∷◌, Option, Some, None, MatchOption}
use Rattle.std.specs.List.{Contains}
use Rattle.std.specs.Option.{option_cmp}
use Rattle.std.specs.Ordering.{nat_cmp, is_lt, ordering_then}
use Rattle.std.specs.Cmp.Lexicographic.{slice_cmp}
use Rattle.std.specs.declared.cmp.Ordering.{Ordering}
use Rattle.dubp_atoms.specs.Same.{Text}

-- by the bytes of their texts
abbrev pub text_cmp : Text → Text → Ordering
text_cmp = slice_cmp nat_cmp

-- by the first, then by the second
abbrev pub pair_cmp : Text × Text → Text × Text → Ordering
pair_cmp p q = ordering_then (text_cmp p.0 q.0) (text_cmp p.1 q.1)

-- a place in a table of pairs: where no second key stands, it is before each pair of the first
abbrev pub Place : Type 0
Place = Text × Option Text

abbrev pub place_cmp : Place → Place → Ordering
place_cmp p q = ordering_then (text_cmp p.0 q.0) (option_cmp text_cmp p.1 q.1)

-- whether x stands before y
abbrev pub less : Text → Text → Bool
less x y = is_lt (text_cmp x y)

-- whether a stands behind this key, where there is one
abbrev pub is_above : Option Text → Text → Bool
is_above None a = true
is_above (Some k) a = less k a

-- the least key above `after` that has P, or none exactly where there is none
abbrev pub IsNext : (Text → Type 0) → Option Text → Option Text → Type 0
IsNext P after answer =
    MatchOption answer
    ((a : Text) → P a → is_above after a ≡ false)
    (λ k. P k × (is_above after k ≡ true) × ((a : Text) → P a → is_above after a ≡ true → less a k ≡ false))

-- the next key that certifies `to`
abbrev pub IsNextIssuer : List (Text × Text) → Text → Option Text → Option Text → Type 0
IsNextIssuer pairs to after answer = IsNext (λ a. Contains pairs (a, to)) after answer

-- all keys above `after` that have P, each the next behind the one before it
abbrev pub AreNext : (Text → Type 0) → Option Text → List Text → Type 0
AreNext P after [] = IsNext P after None
AreNext P after (k ∷ keys) = IsNext P after (Some k) × AreNext P (Some k) keys

-- all keys above `after` that certify `to`, in order
abbrev pub AreNextIssuers : List (Text × Text) → Text → Option Text → List Text → Type 0
AreNextIssuers pairs to after keys = AreNext (λ a. Contains pairs (a, to)) after keys
