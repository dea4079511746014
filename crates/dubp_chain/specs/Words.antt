-- Words on lists that the definitions share: the last that passes, whether a key is named, texts in order. Protocol: chains.
use Rattle.std.specs.Prelude.{Bool, true, not, ◌&&◌, List, [], ◌∷◌, Option, Some, None, map, if◌then◌else◌}
use Rattle.std.specs.List.{list_any}
use Rattle.std.specs.Option.{option_or}
use Rattle.std.specs.Cmp.Lexicographic.{slice_cmp}
use Rattle.std.specs.Ordering.{nat_cmp}
use Rattle.std.specs.FinMap.Entries.{put}
use Rattle.dubp_time.specs.OfAtoms.{Text, same_text}

-- the last element that passes the test
abbrev pub last_of : {X : Type 0} → (X → Bool) → List X → Option X
last_of test [] = None
last_of test (x ∷ xs) = option_or (last_of test xs) (if test x then Some x else None)

-- k is one of the keys
abbrev pub names : List Text → Text → Bool
names keys k = list_any (same_text k) keys

-- none of the list stands in it twice
abbrev pub each_once : {X : Type 0} → (X → X → Bool) → List X → Bool
each_once same [] = true
each_once same (x ∷ xs) = not (list_any (same x) xs) && each_once same xs

abbrev pub marked : List Text → List (Text × Unit {0})
marked [] = []
marked (k ∷ ks) = put (slice_cmp nat_cmp) k tt (marked ks)

-- each text once, in ascending order of its bytes
abbrev pub in_order : List Text → List Text
in_order keys = map (λ e. e.0) (marked keys)
