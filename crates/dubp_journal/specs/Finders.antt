-- Why each kind of finder finds one slot for equal keys: the law that the trait asks for.
use Rattle.std.proofs.Common.{◌≡◌, ◌∙◌, ℕ, Bool, true, List, [], ◌∷◌, Option, None, get_or, refl, arith}
use Rattle.std.specs.declared.cmp.Ordering.{Ordering}
use Rattle.std.specs.Cmp.{IsEquivalence, IsTotalOrder, eq_by_cmp_equiv}
use Rattle.std.specs.Ordering.{is_eq, nat_cmp}
use Rattle.std.proofs.lemmas.Bool.Decides.{nat_tests}
use Rattle.std.specs.Map.{lookup}
use Rattle.std.specs.BTreeMap.{BTreeMap, get, is_at}

-- a look-up finds the same of two keys that are one
lookup_respects : {K V : Type 0} {E : K → K → Bool} → IsEquivalence E → (es : List (K × V)) (q k : K) → E q k ≡ true → lookup (E q) es ≡ lookup (E k) es
lookup_respects e [] q k same = refl
lookup_respects e (x ∷ es) q k same = rw (e.congr q k x.0 same, lookup_respects e es q k same) refl

-- keys that compare equal are one
pub order_respects : {K V : Type 0} {R : K → K → Ordering} → IsTotalOrder R → (m : BTreeMap K V) (q k : K) → is_at (R q) k ≡ true → get R m q ≡ get R m k
order_respects o m q k same = lookup_respects (eq_by_cmp_equiv o) m.entries q k same

-- equal numbers are one number
pub number_respects : {V : Type 0} (xs : List (Option V)) (q k : ℕ) → is_at (nat_cmp q) k ≡ true → get_or xs q None ≡ get_or xs k None
number_respects xs q k same = grind (arith, nat_tests)

-- keys that compare equal are also equal by the test that goes with the order
pub hash_respects : {K V : Type 0} {E : K → K → Bool} (R : K → K → Ordering) → IsEquivalence E → ((x y : K) → E x y ≡ is_eq (R x y)) → (es : List (K × V)) (q k : K) → is_at (R q) k ≡ true → lookup (E q) es ≡ lookup (E k) es
hash_respects R e agree es q k same = lookup_respects e es q k (agree q k ∙ same)
