-- A map that is gathered from all keys at which something stands has at each key what stands there.
use Rattle.std.proofs.Common.{◌≡◌, Bool, true, false, cond, List, [], ◌∷◌, Option, None, Some, refl, sym, ap, subst, ◌∙◌}
use Rattle.std.specs.Prelude.{T, is_some, ◌||◌}
use Rattle.std.specs.List.{list_any}
use Rattle.std.specs.Ordering.{is_eq, eq_by_cmp}
use Rattle.std.specs.declared.cmp.Ordering.{Ordering}
use Rattle.std.specs.declared.cmp.Ordering.TheVariants.{Less, Equal, Greater}
use Rattle.std.specs.Cmp.{IsTotalOrder}
use Rattle.std.specs.FinMap.{IsAntisymmetric, find, get, get-from_entries}
use Rattle.dubp_left.specs.Gathered.{entry_of, gathered, table_of}

tied : (r : Ordering) → is_eq r ≡ true → r ≡ Equal
tied Less e = cc
tied Equal e = refl
tied Greater e = cc

module _ {K X : Type 0} {R : K → K → Ordering} (o : IsTotalOrder R) (same : IsAntisymmetric R) (f : K → Option X) where
  step : (q k : K) (b n : Bool) (v : Option X) (es : List (K × X)) → eq_by_cmp R q k ≡ b → f k ≡ v → find R q es ≡ cond n (f q) None → find R q (entry_of k v es) ≡ cond (b || n) (f q) None
  step q k true n (Some x) es e is rest = rw e (sym is ∙ ap f (sym (same q k (tied (R q k) e))))
  step q k true true None es e is rest = rest
  step q k true false None es e is rest = rest ∙ sym is ∙ ap f (sym (same q k (tied (R q k) e)))
  step q k false n (Some x) es e is rest = rw e rest
  step q k false n None es e is rest = rest

  pub found : (q : K) (ks : List K) → find R q (gathered f ks) ≡ cond (list_any (eq_by_cmp R q) ks) (f q) None
  found q [] = refl
  found q (k ∷ ks) = step q k (eq_by_cmp R q k) (list_any (eq_by_cmp R q) ks) (f k) (gathered f ks) refl refl (found q ks)

  all_there : (b : Bool) (v : Option X) → (is_some v ≡ true → b ≡ true) → cond b v None ≡ v
  all_there true v all = refl
  all_there false None all = refl
  all_there false (Some x) all = absurd (subst T (sym (all refl)) tt)

  -- where something stands at none but these keys
  pub get-table : (q : K) (ks : List K) → (is_some (f q) ≡ true → list_any (eq_by_cmp R q) ks ≡ true) → get (table_of R f ks) q ≡ f q
  get-table q ks all = get-from_entries o (gathered f ks) q ∙ found q ks ∙ all_there (list_any (eq_by_cmp R q) ks) (f q) all
