-- A walk ends: behind each entry that it finds fewer are left.
use Rattle.std.proofs.Common.{◌≡◌, ℕ, ◌<◌, ◌≤◌, Bool, true, false, cond, List, [], ◌∷◌, Option, Some, None, refl, ap, sym, ◌∙◌, true≢false, arith}
use Rattle.std.specs.Prelude.{count_by}
use Rattle.std.specs.Ordering.{is_lt, is_eq}
use Rattle.std.specs.declared.cmp.Ordering.TheVariants.{Less}
use Rattle.std.specs.declared.ops.Bound.{Bound}
use Rattle.std.specs.declared.ops.Bound.TheVariants.{Included, Excluded, Unbounded}
use Rattle.std.proofs.lemmas.Cmp.{tied_itself}
use Rattle.std.proofs.lemmas.List.Sums.{sum_by-cons}
use Rattle.std.proofs.lemmas.Option.{none-some}
use Rattle.dubp_atoms.specs.Same.{Text}
use Rattle.dubp_undo.specs.MovingTable.{get}
use Rattle.dubp_cindex.specs.Orders.{Place, place_cmp}
use Rattle.dubp_cindex.specs.Following.{Follows}
use Rattle.dubp_cindex.proofs.Texts.{is_equal, is_less, place_total, place_exact}
use Rattle.dubp_cindex.proofs.Following.{above_behind}

abbrev bit : Bool → ℕ
bit b = cond b 1 0

bits : (a b : Bool) → (a ≡ true → b ≡ true) → bit a ≤ bit b
bits true true f = omega arith
bits true false f = absurd (true≢false (sym (f refl)))
bits false b f = omega arith

-- the other key of the place behind which a walk stands
abbrev pub other_of : Bound Place → Option Text
other_of (Included p) = p.1
other_of (Excluded p) = p.1
other_of Unbounded = None

-- where a walk has gone on, it stands behind a place of the owner again
pub other-behind : (owner : Text) (other : Option Text) (from : Bound Place) → from ≡ Excluded (owner, other) → from ≡ Excluded (owner, other_of from)
other-behind owner other from is = is ∙ ap (λ (b : Bound Place). Excluded (owner, other_of b)) (sym is)

module _ {V : Type 0} where
  abbrev behind : Place → Place × V → Bool
  behind k e = is_lt (place_cmp k e.0)

  -- how many entries stand behind the place
  abbrev pub left : Text → Option Text → List (Place × V) → ℕ
  left owner after m = count_by (behind (owner, after)) m

  module _ (k l : Place) (before : place_cmp k l ≡ Less) where
    still : (e : Place × V) → behind l e ≡ true → behind k e ≡ true
    still e h = ap is_lt (place_total.trans k l e.0 before (is_less _ h))

    fewer : (m : List (Place × V)) → count_by (behind l) m ≤ count_by (behind k) m
    fewer [] = omega arith
    fewer (e ∷ m) = omega (arith, sum_by-cons (λ x. bit (behind l x)) e m, sum_by-cons (λ x. bit (behind k x)) e m, bits (behind l e) (behind k e) (still e), fewer m)

    falls : (v : V) (m : List (Place × V)) → get place_cmp m l ≡ Some v → count_by (behind l) m < count_by (behind k) m
    falls v [] h = absurd (none-some v h)
    falls v (e ∷ m) h =
        elim (is_eq (place_cmp l e.0)) as (λ b. is_eq (place_cmp l e.0) ≡ b → cond b (Some e.1) (get place_cmp m l) ≡ Some v → count_by (behind l) (e ∷ m) < count_by (behind k) (e ∷ m)) [
          | true ↦ λ t _.
              let same = place_exact l e.0 (is_equal _ t) in
              let no_more : bit (behind l e) ≡ 0 = ap (λ q. bit (is_lt (place_cmp l q))) (sym same) ∙ ap (λ r. bit (is_lt r)) (tied_itself place_total l) in
              let one : bit (behind k e) ≡ 1 = ap (λ q. bit (is_lt (place_cmp k q))) (sym same) ∙ ap (λ r. bit (is_lt r)) before in
              omega (arith, sum_by-cons (λ x. bit (behind l x)) e m, sum_by-cons (λ x. bit (behind k x)) e m, no_more, one, fewer m)
          | false ↦ λ t f. omega (arith, sum_by-cons (λ x. bit (behind l x)) e m, sum_by-cons (λ x. bit (behind k x)) e m, bits (behind l e) (behind k e) (still e), falls v m f)
        ] refl h

  pub left-falls : (m : List (Place × V)) (owner : Text) (after : Option Text) (a : Text) (v : V) → Follows m owner after (Some (a, v)) → left owner (Some a) m < left owner after m
  left-falls m owner after a v f = falls (owner, after) (owner, Some a) (above_behind owner after a f.1) v m f.0

  -- the same of a walk, which stands behind a place of the owner
  pub walk-falls : (m n : List (Place × V)) (owner : Text) (from to : Bound Place) (a : Text) (v : V) → n ≡ m → to ≡ Excluded (owner, Some a) → Follows m owner (other_of from) (Some (a, v)) → left owner (other_of to) n < left owner (other_of from) m
  walk-falls m n owner from to a v same is f = rw (same, is) (left-falls m owner (other_of from) a v f)
