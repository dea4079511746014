-- The next entry of one owner is the least entry of the table behind a place, where that is one of the owner.
use Rattle.std.proofs.Common.{◌≡◌, true, false, List, Option, Some, None, not, refl, ap, sym, ◌∙◌, subst, true≢false}
use Rattle.std.specs.Prelude.{IsSome}
use Rattle.std.specs.Cmp.Lexicographic.{nat_list_cmp_total}
use Rattle.std.specs.Ordering.{is_lt, is_gt, ordering_then, ordering_reverse}
use Rattle.std.specs.Option.{option_cmp}
use Rattle.std.specs.declared.cmp.Ordering.{Ordering}
use Rattle.std.specs.declared.cmp.Ordering.TheVariants.{Less, Equal, Greater}
use Rattle.dubp_atoms.specs.Same.{Text, same_text}
use Rattle.dubp_undo.specs.MovingTable.{get, IsLeast, HasNone, IsAfter}
use Rattle.dubp_cindex.specs.Orders.{text_cmp, Place, place_cmp, less, is_above}
use Rattle.dubp_cindex.specs.Following.{Follows}
use Rattle.dubp_cindex.proofs.Texts.{is_less, text_exact, then_own, same_text_is, same_text_own}

-- a place of the owner behind another
pub above_behind : (owner : Text) (after : Option Text) (a : Text) → is_above after a ≡ true → place_cmp (owner, after) (owner, Some a) ≡ Less
above_behind owner None a h = then_own owner Less
above_behind owner (Some k) a h = then_own owner (text_cmp k a) ∙ is_less _ h

pub behind_above : (owner : Text) (after : Option Text) (a : Text) → place_cmp (owner, after) (owner, Some a) ≡ Less → is_above after a ≡ true
behind_above owner None a h = refl
behind_above owner (Some k) a h = ap is_lt (sym (then_own owner (text_cmp k a)) ∙ h)

-- no place is behind another where no second key stands
first_is_least : (after : Option Text) → option_cmp text_cmp after None ≡ Less → ⊥
first_is_least None h = true≢false (sym (ap is_lt h))
first_is_least (Some k) h = true≢false (sym (ap is_lt h))

none_behind : (owner : Text) (after : Option Text) → place_cmp (owner, after) (owner, None) ≡ Less → ⊥
none_behind owner after h = first_is_least after (sym (then_own owner (option_cmp text_cmp after None)) ∙ h)

not_less : (x y : Text) → text_cmp x y ≡ Less → is_gt (text_cmp y x) ≡ true
not_less x y h = ap is_gt (nat_list_cmp_total.antisymm y x ∙ ap ordering_reverse h)

-- a place of another owner that is behind one of this owner is behind all of them
later : (r s : Ordering) → is_gt r ≡ true → is_gt (ordering_then r s) ≡ true
later Less s h = absurd (true≢false (sym h))
later Equal s h = absurd (true≢false (sym h))
later Greater s h = refl

other_behind : (r s : Ordering) → (r ≡ Equal → ⊥) → ordering_then r s ≡ Less → r ≡ Less
other_behind Less s n h = refl
other_behind Equal s n h = absurd (n refl)
other_behind Greater s n h = h

behind_all : (owner found : Text) (after : Option Text) (x : Option Text) (a : Text) → (owner ≡ found → ⊥) → place_cmp (owner, after) (found, x) ≡ Less → is_gt (place_cmp (found, x) (owner, Some a)) ≡ true
behind_all owner found after x a n h =
    let first = other_behind (text_cmp owner found) (option_cmp text_cmp after x) (λ e. n (text_exact owner found e)) h in
    later (text_cmp found owner) (option_cmp text_cmp x (Some a)) (not_less owner found first)

is_there : {V : Type 0} (o : Option V) → (IsSome o → ⊥) → o ≡ None
is_there None n = refl
is_there (Some v) n = absurd (n refl)

not_before : (k a : Text) → is_gt (text_cmp k a) ≡ false → less a k ≡ false
not_before k a h =
    ap is_lt (nat_list_cmp_total.antisymm a k)
    ∙ elim (text_cmp k a) as (λ r. is_gt r ≡ false → is_lt (ordering_reverse r) ≡ false) [ Less ↦ λ _. refl | Equal ↦ λ _. refl | Greater ↦ λ e. absurd (true≢false e) ] h

-- what the test of the owner has told
pub told_own : (owner found : Text) → not (same_text found owner) ≡ false → found ≡ owner
told_own owner found h = same_text_is found owner (elim (same_text found owner) as (λ b. not b ≡ false → b ≡ true) [ true ↦ λ _. refl | false ↦ λ e. absurd (true≢false e) ] h)

pub told_other : (owner found : Text) → not (same_text found owner) ≡ true → owner ≡ found → ⊥
told_other owner found h e =
    true≢false (sym h ∙ ap (λ x. not (same_text x owner)) (sym e) ∙ ap not (same_text_own owner))

module _ {V : Type 0} (m : List (Place × V)) (owner : Text) (after : Option Text) where
  pub follows-own : (other : Text) (v : V) → IsLeast place_cmp m (IsAfter place_cmp (Some (owner, after))) ((owner, Some other), v) → Follows m owner after (Some (other, v))
  follows-own other v l = (
    l.value,
    behind_above owner after other l.passes,
    λ a h there. not_before other a (ap is_gt (sym (then_own owner (text_cmp other a))) ∙ l.least (owner, Some a) (above_behind owner after a h) there),
  )

  pub follows-other : (found : Text) (x : Option Text) (v : V) → (owner ≡ found → ⊥) → IsLeast place_cmp m (IsAfter place_cmp (Some (owner, after))) ((found, x), v) → Follows m owner after None
  follows-other found x v n l =
      λ a h. is_there (get place_cmp m (owner, Some a)) (λ there. true≢false (sym (behind_all owner found after x a n l.passes) ∙ l.least (owner, Some a) (above_behind owner after a h) there))

  pub follows-first : (v : V) → IsLeast place_cmp m (IsAfter place_cmp (Some (owner, after))) ((owner, None), v) → Follows m owner after None
  follows-first v l = absurd (none_behind owner after l.passes)

  pub follows-none : HasNone place_cmp m (IsAfter place_cmp (Some (owner, after))) → Follows m owner after None
  follows-none none = λ a h. none (owner, Some a) (above_behind owner after a h)

  -- the place that was found, part by part
  pub follows-place : (place : Place) (v : V) (other : Text) → place.0 ≡ owner → place.1 ≡ Some other → IsLeast place_cmp m (IsAfter place_cmp (Some (owner, after))) (place, v) → Follows m owner after (Some (other, v))
  follows-place place v other is has l =
      let here : place ≡ (owner, Some other) = λ i. (is i, has i) in
      follows-own other v (subst (λ (p : Place). IsLeast place_cmp m (IsAfter place_cmp (Some (owner, after))) (p, v)) here l)

  pub follows-without : (place : Place) (v : V) → place.0 ≡ owner → place.1 ≡ None → IsLeast place_cmp m (IsAfter place_cmp (Some (owner, after))) (place, v) → Follows m owner after None
  follows-without place v is has l =
      let here : place ≡ (owner, None) = λ i. (is i, has i) in
      follows-first v (subst (λ (p : Place). IsLeast place_cmp m (IsAfter place_cmp (Some (owner, after))) (p, v)) here l)
