-- The least key of a table above another is the next of the keys that it has.
use Rattle.std.proofs.Common.{◌≡◌, Bool, true, false, List, Option, Some, None, refl, sym, ap, ◌∙◌, true≢false}
use Rattle.std.specs.Prelude.{is_some, cond}
use Rattle.std.specs.Option.{IsSome}
use Rattle.std.specs.Ordering.{is_lt, is_gt, ordering_reverse}
use Rattle.std.specs.declared.cmp.Ordering.{Ordering}
use Rattle.std.specs.declared.cmp.Ordering.TheVariants.{Less, Equal, Greater}
use Rattle.std.specs.Cmp.Lexicographic.{nat_list_cmp_total}
use Rattle.dubp_atoms.specs.Same.{Text}
use Rattle.dubp_undo.specs.MovingTable.{get, IsLeast, HasNone, IsAfter}
use Rattle.dubp_iindex.specs.Order.{is_above, IsNext}
use Rattle.dubp_iindex.specs.Rows.{texts}

pub is_less : (o : Ordering) → is_lt o ≡ true → o ≡ Less
is_less Less h = refl
is_less Equal h = cc
is_less Greater h = cc

above-after : (after : Option Text) (q : Text) → is_above after q ≡ true → IsAfter texts after q
above-after None q h = tt
above-after (Some k) q h = is_less (texts k q) h

pub after-above : (after : Option Text) (q : Text) → IsAfter texts after q → is_above after q ≡ true
after-above None q h = refl
after-above (Some k) q h = ap is_lt h

not_less : (o : Ordering) → is_gt o ≡ false → is_lt (ordering_reverse o) ≡ false
not_less Less h = refl
not_less Equal h = refl
not_less Greater h = cc

module _ {V : Type 0} (m : List (Text × V)) (P : Text → Type 0) (has : (q : Text) → P q → IsSome (get texts m q)) (after : Option Text) where
  pub next-some : (e : Text × V) → (IsSome (get texts m e.0) → P e.0) → IsLeast texts m (IsAfter texts after) e → IsNext P after (Some e.0)
  next-some e is least = (
    is (ap is_some least.value),
    after-above after e.0 least.passes,
    λ a p above. ap is_lt (nat_list_cmp_total.antisymm a e.0) ∙ not_less (texts e.0 a) (least.least a (above-after after a above) (has a p)),
  )

  pub next-none : HasNone texts m (IsAfter texts after) → IsNext P after None
  next-none none = λ a p. by a p (is_above after a) refl
    where
      by : (a : Text) → P a → (t : Bool) → is_above after a ≡ t → t ≡ false
      by a p true e = absurd (true≢false (sym (has a p) ∙ ap is_some (none a (above-after after a e))))
      by a p false e = refl

-- a key stands in the table of members where it is one
pub stands_member : (b : Bool) (o : Option (Unit {0})) → o ≡ cond b (Some tt) None → IsSome o → b ≡ true
stands_member true o is h = refl
stands_member false o is h = absurd (true≢false (sym h ∙ ap is_some is))

pub member_stands : (b : Bool) (o : Option (Unit {0})) → o ≡ cond b (Some tt) None → b ≡ true → IsSome o
member_stands true o is h = ap is_some is
member_stands false o is h = absurd (true≢false (sym h))
