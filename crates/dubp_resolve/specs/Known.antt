-- What private contracts say of the heights that were found.
use Rattle.std.specs.Prelude.{◌≡◌, ◌≤◌, ◌+◌, ℕ, cond, ◌||◌, false, List, [], ◌∷◌, length, Option, Some, None}
use Rattle.std.specs.List.{All, list_any}
use Rattle.std.specs.Option.{option_map, option_map_or}
use Rattle.dubp_atoms.specs.declared.stamp.Stamp.{Stamp}
use Rattle.dubp_resolve.specs.declared.view.Offered.{Offered}
use Rattle.dubp_resolve.specs.declared.view.View.{View}
use Rattle.dubp_resolve.specs.Choice.{has_stamp, Choices, Path, path_of, stored, is_detached, has_failed, height_under, most_stored}

-- what a view holds
abbrev pub seen : View → Choices
seen v = record { offers = v.offers.items; recent = v.recent.items; length = v.length; kept = v.kept; failed = v.failed.items }

-- block 0 has no block before it, and each other has one of the number before
abbrev pub IsNumbered : Offered → Type 0
IsNumbered b = option_map_or (λ (s : Stamp). s.number + 1) b.previous 0 ≡ b.stamp.number

-- no two stored blocks have one stamp: each is found by its own
abbrev pub IsFound : List Offered → Offered → Type 0
IsFound offers b = stored offers b.stamp ≡ Some b

pub record AreOffers (offers : List Offered) : Type 0 where
  pub numbered : All IsNumbered offers
  pub apart : All (IsFound offers) offers
  pub few : length offers ≤ most_stored

-- where a path stands that no failure is on, and that is not detached
abbrev pub height_of : Choices → Path → Option ℕ
height_of v p = cond (is_detached v p || has_failed v p) None (Some (height_under p))

-- the same of the stored block of a stamp
abbrev pub height_at : Choices → Stamp → Option (Option ℕ)
height_at v s = option_map (λ b. height_of v (path_of v b)) (stored v.offers s)

-- no two of these blocks have one stamp
abbrev pub AreApart : List Offered → Type 0
AreApart [] = Unit {0}
AreApart (b ∷ blocks) = (list_any (has_stamp b.stamp) blocks ≡ false) × AreApart blocks
