-- The orders of keys, of pairs and of places are total, and only equal ones tie.
use Rattle.std.proofs.Common.{◌≡◌, Bool, true, false, Some, None, refl, ap, sym, subst, true≢false}
use Rattle.std.specs.Cmp.{IsTotalOrder}
use Rattle.std.specs.Cmp.Lexicographic.{nat_list_cmp_total, options_total}
use Rattle.std.specs.Ordering.{is_lt, is_eq, ordering_then}
use Rattle.std.specs.Option.{option_cmp}
use Rattle.std.specs.declared.cmp.Ordering.{Ordering}
use Rattle.std.specs.declared.cmp.Ordering.TheVariants.{Less, Equal, Greater}
use Rattle.std.specs.FinMap.{IsAntisymmetric, nat_cmp-IsAntisymmetric, slice_cmp-IsAntisymmetric}
use Rattle.std.proofs.lemmas.Cmp.{tied_itself, then_total, on_total}
use Rattle.dubp_atoms.specs.Same as same
use Rattle.dubp_atoms.specs.Same.{Text}
pub use Rattle.dubp_atoms.proofs.Same.{same_text_is, same_text_own}
use Rattle.dubp_cindex.specs.Orders.{text_cmp, pair_cmp, Place, place_cmp}

pub same_truth : (a b : Bool) → (a ≡ true → b ≡ true) → (b ≡ true → a ≡ true) → a ≡ b
same_truth true b there back = sym (there refl)
same_truth false true there back = back refl
same_truth false false there back = refl

pub is_equal : (r : Ordering) → is_eq r ≡ true → r ≡ Equal
is_equal Less e = absurd (true≢false (sym e))
is_equal Equal e = refl
is_equal Greater e = absurd (true≢false (sym e))

pub is_less : (r : Ordering) → is_lt r ≡ true → r ≡ Less
is_less Less e = refl
is_less Equal e = absurd (true≢false (sym e))
is_less Greater e = absurd (true≢false (sym e))

pub text_exact : IsAntisymmetric text_cmp
text_exact = slice_cmp-IsAntisymmetric nat_cmp-IsAntisymmetric

pub text_itself : (x : Text) → text_cmp x x ≡ Equal
text_itself = tied_itself nat_list_cmp_total

pub text_tied : (x y : Text) → is_eq (text_cmp x y) ≡ same.same_text x y
text_tied x y =
    same_truth _ _ (λ e. subst (λ z. same.same_text x z ≡ true) (text_exact x y (is_equal _ e)) (same_text_own x))
    (λ e. subst (λ z. is_eq (text_cmp x z) ≡ true) (same_text_is x y e) (ap is_eq (text_itself x)))

-- ---- pairs and places

pub pair_total : IsTotalOrder pair_cmp
pair_total = then_total (on_total (λ (p : Text × Text). p.0) nat_list_cmp_total) (on_total (λ (p : Text × Text). p.1) nat_list_cmp_total)

pub place_total : IsTotalOrder place_cmp
place_total = then_total (on_total (λ (p : Place). p.0) nat_list_cmp_total) (on_total (λ (p : Place). p.1) (options_total nat_list_cmp_total))

then_equal : {A : Type 0} (r s : Ordering) → ordering_then r s ≡ Equal → (r ≡ Equal → s ≡ Equal → A) → A
then_equal Less s e f = absurd (true≢false (sym (ap is_eq e)))
then_equal Equal s e f = f refl e
then_equal Greater s e f = absurd (true≢false (sym (ap is_eq e)))

pub pair_exact : IsAntisymmetric pair_cmp
pair_exact p q e = then_equal (text_cmp p.0 q.0) (text_cmp p.1 q.1) e (λ f h. λ i. (text_exact p.0 q.0 f i, text_exact p.1 q.1 h i))

option_exact : IsAntisymmetric (option_cmp text_cmp)
option_exact None None e = refl
option_exact None (Some y) e = absurd (true≢false (sym (ap is_eq e)))
option_exact (Some x) None e = absurd (true≢false (sym (ap is_eq e)))
option_exact (Some x) (Some y) e = ap Some (text_exact x y e)

pub place_exact : IsAntisymmetric place_cmp
place_exact p q e = then_equal (text_cmp p.0 q.0) (option_cmp text_cmp p.1 q.1) e (λ f h. λ i. (text_exact p.0 q.0 f i, option_exact p.1 q.1 h i))

-- where the first keys are one, the second ones decide
pub then_own : (x : Text) (r : Ordering) → ordering_then (text_cmp x x) r ≡ r
then_own x r = ap (λ o. ordering_then o r) (text_itself x)
