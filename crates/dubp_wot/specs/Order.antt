-- Keys in the order of the bytes of their texts, and the next of some keys in that order. Protocol: distance.
use Rattle.std.specs.Prelude.{◌≡◌, Bool, true, false, List, [], ◌∷◌, Option, Some, None, MatchOption}
use Rattle.std.specs.List.{Contains}
use Rattle.std.specs.List.Sorted.{IsStrictlySortedBy}
use Rattle.std.specs.Ordering.{nat_cmp, is_lt}
use Rattle.std.specs.Cmp.Lexicographic.{slice_cmp}
use Rattle.dubp_atoms.specs.Same.{Text}

-- whether x stands before y
abbrev pub less : Text → Text → Bool
less x y = is_lt (slice_cmp nat_cmp x y)

-- each key is before those behind it, so each stands once
abbrev pub IsInOrder : List Text → Type 0
IsInOrder keys = IsStrictlySortedBy (slice_cmp nat_cmp) keys

-- whether a stands behind this key, where there is one
abbrev pub is_above : Option Text → Text → Bool
is_above None a = true
is_above (Some k) a = less k a

-- the least key above `after` that has P, or none exactly where there is none
abbrev pub IsNext : (Text → Type 0) → Option Text → Option Text → Type 0
IsNext P after answer =
    MatchOption answer
    ((a : Text) → P a → is_above after a ≡ false)
    (λ k. P k × (is_above after k ≡ true) × ((a : Text) → P a → is_above after a ≡ true → less a k ≡ false))

abbrev pub IsNextMember : List Text → Option Text → Option Text → Type 0
IsNextMember members after answer = IsNext (Contains members) after answer

-- the next key that certifies `to`
abbrev pub IsNextIssuer : List (Text × Text) → Text → Option Text → Option Text → Type 0
IsNextIssuer pairs to after answer = IsNext (λ a. Contains pairs (a, to)) after answer

-- all keys above `after` that have P, each the next behind the one before it
abbrev pub AreNext : (Text → Type 0) → Option Text → List Text → Type 0
AreNext P after [] = IsNext P after None
AreNext P after (k ∷ keys) = IsNext P after (Some k) × AreNext P (Some k) keys

-- all keys above `after` that certify `to`, in order
abbrev pub AreNextIssuers : List (Text × Text) → Text → Option Text → List Text → Type 0
AreNextIssuers pairs to after keys = AreNext (λ a. Contains pairs (a, to)) after keys
