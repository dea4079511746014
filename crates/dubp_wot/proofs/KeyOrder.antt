-- The order of keys: which of two stands before the other, and what stands behind a third.
use Rattle.std.proofs.Common.{◌≡◌, ◌&&◌, Bool, true, false, Option, Some, None, refl, sym, ap, ◌∙◌, true≢false}
use Rattle.std.specs.declared.cmp.Ordering.{Ordering}
use Rattle.std.specs.declared.cmp.Ordering.TheVariants.{Less, Equal, Greater}
use Rattle.std.specs.Ordering.{nat_cmp, is_lt, ordering_reverse}
use Rattle.std.specs.Cmp.Lexicographic.{slice_cmp}
use Rattle.std.specs.FinMap.{nat_cmp-IsAntisymmetric, slice_cmp-IsAntisymmetric}
use Rattle.std.proofs.lemmas.Cmp.{nat_list_cmp_total, tied_itself}
use Rattle.dubp_atoms.specs.Same.{Text}
use Rattle.dubp_wot.specs.Order.{less, is_above}

pub less-is : (o : Ordering) → is_lt o ≡ true → o ≡ Less
less-is Less h = refl
less-is Equal h = cc
less-is Greater h = cc

pub less-trans : (x y z : Text) → less x y ≡ true → less y z ≡ true → less x z ≡ true
less-trans x y z h k =
    ap is_lt (nat_list_cmp_total.trans x y z (less-is (slice_cmp nat_cmp x y) h) (less-is (slice_cmp nat_cmp y z) k))

pub less-own : (x : Text) → less x x ≡ false
less-own x = ap is_lt (tied_itself nat_list_cmp_total x)

-- keys of which neither is below the other are equal
pub less-meets : (x y : Text) → less x y ≡ false → less y x ≡ false → x ≡ y
less-meets x y h k = by (slice_cmp nat_cmp x y) refl
  where
    by : (o : Ordering) → slice_cmp nat_cmp x y ≡ o → x ≡ y
    by Less e = absurd (true≢false (sym (ap is_lt e) ∙ h))
    by Equal e = slice_cmp-IsAntisymmetric nat_cmp-IsAntisymmetric x y e
    by Greater e = absurd (true≢false (sym (ap is_lt (nat_list_cmp_total.antisymm y x ∙ ap ordering_reverse e)) ∙ k))

pub less-back : (x y : Text) → less x y ≡ true → less y x ≡ false
less-back x y h = by (less y x) refl
  where
    by : (t : Bool) → less y x ≡ t → t ≡ false
    by true e = absurd (true≢false (sym (less-trans x y x h e) ∙ less-own x))
    by false e = refl

pub less-under : (x p b : Text) → less p b ≡ true → less x b ≡ false → less x p ≡ false
less-under x p b h k = by (less x p) refl
  where
    by : (t : Bool) → less x p ≡ t → t ≡ false
    by true e = absurd (true≢false (sym (less-trans x p b e h) ∙ k))
    by false e = refl

-- what lies above a higher key lies above the lower one
pub above-up : (after : Option Text) (k a : Text) → is_above after k ≡ true → less k a ≡ true → is_above after a ≡ true
above-up None k a h up = refl
above-up (Some j) k a h up = less-trans j k a h up

pub and-left : (s t : Bool) → (s && t) ≡ true → s ≡ true
and-left true t h = refl
and-left false t h = cc

pub and-right : (s t : Bool) → (s && t) ≡ true → t ≡ true
and-right true t h = h
and-right false t h = cc
