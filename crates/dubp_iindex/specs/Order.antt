-- The next of some keys, in the order of the bytes of their texts. Protocol: distance.
use Rattle.std.specs.Prelude.{◌≡◌, Bool, true, false, IsTrue, List, [], ◌∷◌, Option, Some, None, IsSome, MatchOption}
use Rattle.std.specs.Ordering.{is_lt}
use Rattle.std.specs.FinMap.{get}
use Rattle.dubp_atoms.specs.Same.{Text}
use Rattle.dubp_iindex.specs.Rows.{Rows, texts, is_member_at}

-- whether x stands before y
abbrev pub less : Text → Text → Bool
less x y = is_lt (texts x y)

-- whether a stands behind this key, where there is one
abbrev pub is_above : Option Text → Text → Bool
is_above None a = true
is_above (Some k) a = less k a

-- the least key above `after` that has P, or none exactly where there is none
abbrev pub IsNext : (Text → Type 0) → Option Text → Option Text → Type 0
IsNext P after answer =
    MatchOption answer
    ((a : Text) → P a → is_above after a ≡ false)
    (λ k. P k × (is_above after k ≡ true) × ((a : Text) → P a → is_above after a ≡ true → less a k ≡ false))

-- all keys above `after` that have P, each the next behind the one before it
abbrev pub AreNext : (Text → Type 0) → Option Text → List Text → Type 0
AreNext P after [] = IsNext P after None
AreNext P after (k ∷ keys) = IsNext P after (Some k) × AreNext P (Some k) keys

-- the next member
abbrev pub IsNextMember : Rows → Option Text → Option Text → Type 0
IsNextMember rows after answer = IsNext (λ a. IsTrue (is_member_at rows a)) after answer

-- the next key that has an identity
abbrev pub IsNextKey : Rows → Option Text → Option Text → Type 0
IsNextKey rows after answer = IsNext (λ a. IsSome (get rows a)) after answer
