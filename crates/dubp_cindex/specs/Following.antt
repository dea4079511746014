-- The next entry of one owner in a table of pairs.
use Rattle.std.specs.Prelude.{◌≡◌, true, false, List, Option, Some, None, MatchOption, IsSome}
use Rattle.dubp_atoms.specs.Same.{Text}
use Rattle.dubp_undo.specs.MovingTable.{get}
use Rattle.dubp_cindex.specs.Orders.{Place, place_cmp, less, is_above}

-- the pair of the owner with the least other key above `after`, with its value; or none exactly where the owner has none
abbrev pub Follows : {V : Type 0} → List (Place × V) → Text → Option Text → Option (Text × V) → Type 0
Follows m owner after answer =
    MatchOption answer
    ((a : Text) → is_above after a ≡ true → get place_cmp m (owner, Some a) ≡ None)
    (λ e. (get place_cmp m (owner, Some e.0) ≡ Some e.1) × (is_above after e.0 ≡ true) × ((a : Text) → is_above after a ≡ true → IsSome (get place_cmp m (owner, Some a)) → less a e.0 ≡ false))
