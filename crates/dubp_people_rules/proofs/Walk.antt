-- A walk over the keys that have to be excluded, which takes those that it finds out of a set.
use Rattle.std.proofs.Common.{◌≡◌, Bool, true, false, IsTrue, List, Option, None, Some, refl, ap, sym, ◌∙◌, subst, true≢false}
use Rattle.std.specs.List.{AllByRecursion}
use Rattle.std.specs.Ordering.{is_lt, is_eq, ordering_reverse}
use Rattle.std.specs.Cmp.Lexicographic.{nat_list_cmp_total}
use Rattle.std.specs.FinMap.{nat_cmp-IsAntisymmetric, slice_cmp-IsAntisymmetric}
use Rattle.std.specs.declared.cmp.Ordering.{Ordering}
use Rattle.std.specs.declared.cmp.Ordering.TheVariants.{Less, Equal, Greater}
use Rattle.dubp_atoms.specs.Same.{Text, same_text}
use Rattle.dubp_iindex.specs.Rows.{texts}
use Rattle.dubp_iindex.specs.Order.{less, is_above, IsNext}
use Rattle.dubp_chain.specs.Words.{names}
use Rattle.dubp_lists.proofs.Elements.{any_in, in_any, in_all, all_from_in}
use Rattle.dubp_lists.proofs.InOrder.{same_text_is, same_text_own}

is_less : (o : Ordering) → is_lt o ≡ true → o ≡ Less
is_less Less e = refl
is_less Equal e = absurd (true≢false (sym e))
is_less Greater e = absurd (true≢false (sym e))

less_only : (o : Ordering) → is_lt o ≡ true → is_eq o ≡ false
less_only Less e = refl
less_only Equal e = absurd (true≢false (sym e))
less_only Greater e = refl

neither : (o : Ordering) → is_lt o ≡ false → is_lt (ordering_reverse o) ≡ false → o ≡ Equal
neither Less e f = absurd (true≢false e)
neither Equal e f = refl
neither Greater e f = absurd (true≢false f)

-- two texts of which none is below the other are one
meet : (k a : Text) → less k a ≡ false → less a k ≡ false → k ≡ a
meet k a e f = slice_cmp-IsAntisymmetric nat_cmp-IsAntisymmetric k a (neither (texts k a) e (sym (ap is_lt (nat_list_cmp_total.antisymm a k)) ∙ f))

above_up : (after : Option Text) (k a : Text) → is_above after k ≡ true → less k a ≡ true → is_above after a ≡ true
above_up None k a e f = refl
above_up (Some j) k a e f = ap is_lt (nat_list_cmp_total.trans j k a (is_less (texts j k) e) (is_less (texts k a) f))

-- Of the keys of a list, those up to the place are in a set. What is left of the set has above the place what the set has.
pub record IsWalk (has : Text → Bool) (ks : List Text) (after : Option Text) (now : Text → Bool) : Type 0 where
  pub passed : (a : Text) → IsTrue (names ks a) → is_above after a ≡ false → has a ≡ true
  pub rests : (a : Text) → is_above after a ≡ true → now a ≡ has a

module _ (has : Text → Bool) (ks : List Text) where
  pub next_walk : (after : Option Text) (key : Text) (now new : Text → Bool) → IsNext (λ k. IsTrue (names ks k)) after (Some key)
      → now key ≡ true → ((q : Text) → is_eq (texts key q) ≡ false → new q ≡ now q) → IsWalk has ks after now → IsWalk has ks (Some key) new
  next_walk after key now new next there others walk = record {
    passed = λ a kicked behind. elim (is_above after a) as (λ b. is_above after a ≡ b → has a ≡ true) [
      | true ↦ λ e. subst (λ k. has k ≡ true) (meet key a behind (next.2 a kicked e)) (sym (walk.rests key next.1) ∙ there)
      | false ↦ λ e. walk.passed a kicked e
    ] refl;
    rests = λ a later. others a (less_only (texts key a) later) ∙ walk.rests a (above_up after key a next.1 later);
  }

  -- where no key is left, all are in the set
  pub walked : (after : Option Text) (now : Text → Bool) → IsNext (λ k. IsTrue (names ks k)) after None → IsWalk has ks after now → AllByRecursion (λ k. IsTrue (has k)) ks
  walked after now done walk = all_from_in (λ k. IsTrue (has k)) ks (λ a there. let named = in_any (same_text a) ks a there (same_text_own a) in walk.passed a named (done a named))

  -- where one is not in the set, not all are
  pub missed : (key : Text) → IsTrue (names ks key) → has key ≡ false → AllByRecursion (λ k. IsTrue (has k)) ks → ⊥
  missed key named lacks all =
      let there = any_in (same_text key) ks named in
      true≢false (sym (in_all (λ k. IsTrue (has k)) ks all there.0 there.1) ∙ ap has (sym (same_text_is key there.0 there.2)) ∙ lacks)
