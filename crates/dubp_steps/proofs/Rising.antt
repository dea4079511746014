-- Lists that rise strictly: one has the same elements as another exactly where it is that one. Keys in order rise, pairs in order do, and
-- what a filter keeps of them does.
use Rattle.std.proofs.Common.{◌≡◌, Bool, true, false, cond, ◌&&◌, ◌||◌, List, [], ◌∷◌, ◌++◌, Some, None, map, filter, refl, ap, sym, ◌∙◌, subst, true≢false, T, inl, inr}
use Rattle.std.specs.List.{list_any, flat_map, AllByRecursion}
use Rattle.std.specs.List.Sorted.{IsStrictlySortedBy}
use Rattle.std.specs.Cmp.{IsTotalOrder, tied_then}
use Rattle.std.specs.Cmp.Lexicographic.{nat_list_cmp_total}
use Rattle.std.specs.Ordering.{is_lt, is_eq, ordering_then}
use Rattle.std.specs.declared.cmp.Ordering.{Ordering}
use Rattle.std.specs.declared.cmp.Ordering.TheVariants.{Less, Equal, Greater}
use Rattle.std.specs.FinMap.{nat_cmp-IsAntisymmetric, slice_cmp-IsAntisymmetric}
use Rattle.std.specs.FinMap.Entries.{find, below_all, is_sorted, is_sorted-put, is_sorted-where_key, where_key, same_entries}
use Rattle.std.proofs.lemmas.Cmp.{tied_itself, then_total, on_total}
use Rattle.dubp_atoms.specs.Same.{Text, same_text}
use Rattle.dubp_chain.specs.Words.{names, marked, in_order}
use Rattle.dubp_validity.specs.Records.{receivers_of, pairs_in_order}
use Rattle.dubp_lists.proofs.Elements.{IsIn}
use Rattle.dubp_lists.proofs.InOrder.{same_text_is, same_text_own}
use Rattle.dubp_steps.specs.Ordered.{text_cmp, pair_cmp, keys_rise, pairs_rise, has_pair}

pub same_truth : (a b : Bool) → (a ≡ true → b ≡ true) → (b ≡ true → a ≡ true) → a ≡ b
same_truth true b there back = sym (there refl)
same_truth false true there back = back refl
same_truth false false there back = refl

holds : (b : Bool) → b ≡ true → T b
holds b e = subst T (sym e) tt

is_true : (b : Bool) → T b → b ≡ true
is_true true h = refl
is_true false h = absurd h

first : (a b : Bool) → T (a && b) → T a
first true b p = tt
first false b p = p

second : (a b : Bool) → T (a && b) → T b
second true b p = p
second false b p = absurd p

both : (a b : Bool) → T a → T b → T (a && b)
both true b p q = q
both false b p q = p

abbrev units : {K : Type 0} → List K → List (K × Unit {0})
units ks = map (λ k. (k, tt {0})) ks

keys_back : {K : Type 0} (ks : List K) → map (λ (e : K × Unit {0}). e.0) (units ks) ≡ ks
keys_back [] = refl
keys_back (k ∷ ks) = ap (λ l. k ∷ l) (keys_back ks)

units_back : {K : Type 0} (es : List (K × Unit {0})) → units (map (λ (e : K × Unit {0}). e.0) es) ≡ es
units_back [] = refl
units_back (e ∷ es) = ap (λ l. e ∷ l) (units_back es)

units-append : {K : Type 0} (ks ls : List K) → units (ks ++ ls) ≡ units ks ++ units ls
units-append [] ls = refl
units-append (k ∷ ks) ls = ap (λ l. (k, tt {0}) ∷ l) (units-append ks ls)

module _ {K : Type 0} (R : K → K → Ordering) where
  abbrev Rises : List K → Type 0
  Rises ks = T (is_sorted R (units ks))

  abbrev has : List K → K → Bool
  has ks q = list_any (λ k. is_eq (R q k)) ks

  find_units : (q : K) (ks : List K) → find R q (units ks) ≡ cond (has ks q) (Some (tt {0})) None
  find_units q [] = refl
  find_units q (k ∷ ks) =
      elim (is_eq (R q k)) as (λ b. cond b (Some (tt {0})) (find R q (units ks)) ≡ cond (b || has ks q) (Some (tt {0})) None) [ true ↦ refl | false ↦ find_units q ks ]

  filter_units : (p : K → Bool) (ks : List K) → units (filter p ks) ≡ where_key R p (units ks)
  filter_units p [] = refl
  filter_units p (k ∷ ks) =
      elim (p k) as (λ b. units (cond b (k ∷ filter p ks) (filter p ks)) ≡ cond b ((k, tt {0}) ∷ where_key R p (units ks)) (where_key R p (units ks))) [
        | true ↦ ap (λ l. (k, tt {0}) ∷ l) (filter_units p ks)
        | false ↦ filter_units p ks
      ]

  rises-filter : (p : K → Bool) (ks : List K) → Rises ks → Rises (filter p ks)
  rises-filter p ks h = subst (λ l. T (is_sorted R l)) (sym (filter_units p ks)) (is_sorted-where_key R p (units ks) h)

  same_rising : IsTotalOrder R → ((x y : K) → R x y ≡ Equal → x ≡ y) → (ks ls : List K) → Rises ks → Rises ls → ((q : K) → has ks q ≡ has ls q) → ks ≡ ls
  same_rising o exact ks ls f g same =
      sym (keys_back ks)
      ∙ ap (map (λ (e : K × Unit {0}). e.0))
      (same_entries R o exact (units ks) (units ls) f g (λ q. find_units q ks ∙ ap (λ b. cond b (Some (tt {0})) None) (same q) ∙ sym (find_units q ls)))
      ∙ keys_back ls

  abbrev below : K → List K → Type 0
  below k ls = T (below_all R k (units ls))

  below-append : (k : K) (ls ms : List K) → below k ls → below k ms → below k (ls ++ ms)
  below-append k [] ms f g = g
  below-append k (l ∷ ls) ms f g = both (is_lt (R k l)) _ (first _ _ f) (below-append k ls ms (second _ _ f) g)

  rises-append : (ks ls : List K) → Rises ks → Rises ls → ((k : K) → IsIn k ks → below k ls) → Rises (ks ++ ls)
  rises-append [] ls f g apart = g
  rises-append (k ∷ ks) ls f g apart =
      both (below_all R k (units (ks ++ ls))) _ (below-append k ks ls (first _ _ f) (apart k (inl refl))) (rises-append ks ls (second _ _ f) g (λ x there. apart x (inr there)))

  -- std's word for it
  strictly_below : (k : K) (ls : List K) → AllByRecursion (λ l. R k l ≡ Less) ls → below k ls
  strictly_below k [] all = tt
  strictly_below k (l ∷ ls) all = both (is_lt (R k l)) _ (subst (λ r. T (is_lt r)) (sym all.0) tt) (strictly_below k ls all.1)

  strictly_rises : (ks : List K) → IsStrictlySortedBy R ks → Rises ks
  unfolding IsStrictlySortedBy
  strictly_rises [] sorted = tt
  strictly_rises (k ∷ ks) sorted = both (below_all R k (units ks)) _ (strictly_below k ks sorted.0) (strictly_rises ks sorted.1)

-- keys

text_exact : (x y : Text) → text_cmp x y ≡ Equal → x ≡ y
text_exact = slice_cmp-IsAntisymmetric nat_cmp-IsAntisymmetric

pub text_tied : (x y : Text) → is_eq (text_cmp x y) ≡ same_text x y
text_tied x y = same_truth _ _ there back
  where
    equal : (r : Ordering) → is_eq r ≡ true → r ≡ Equal
    equal Less e = absurd (true≢false (sym e))
    equal Equal e = refl
    equal Greater e = absurd (true≢false (sym e))

    there : is_eq (text_cmp x y) ≡ true → same_text x y ≡ true
    there e = subst (λ z. same_text x z ≡ true) (text_exact x y (equal _ e)) (same_text_own x)

    back : same_text x y ≡ true → is_eq (text_cmp x y) ≡ true
    back e = subst (λ z. is_eq (text_cmp x z) ≡ true) (same_text_is x y e) (ap is_eq (tied_itself nat_list_cmp_total x))

any_same : {X : Type 0} (p q : X → Bool) (xs : List X) → ((x : X) → p x ≡ q x) → list_any p xs ≡ list_any q xs
any_same p q [] same = refl
any_same p q (x ∷ xs) same = λ i. same x i || any_same p q xs same i

pub same_keys : (ks ls : List Text) → IsStrictlySortedBy text_cmp ks → keys_rise ls ≡ true → ((k : Text) → names ks k ≡ names ls k) → ks ≡ ls
same_keys ks ls f g same =
    same_rising text_cmp nat_list_cmp_total text_exact ks ls (strictly_rises text_cmp ks f) (holds _ g)
    (λ q. any_same _ _ ks (text_tied q) ∙ same q ∙ sym (any_same _ _ ls (text_tied q)))

marked-sorted : (ks : List Text) → T (is_sorted text_cmp (marked ks))
marked-sorted [] = tt
marked-sorted (k ∷ ks) = is_sorted-put text_cmp nat_list_cmp_total k tt (marked ks) (marked-sorted ks)

in_order_rises : (ks : List Text) → Rises text_cmp (in_order ks)
in_order_rises ks = subst (λ l. T (is_sorted text_cmp l)) (sym (units_back (marked ks))) (marked-sorted ks)

pub filtered_keys_rise : (p : Text → Bool) (ks : List Text) → keys_rise (filter p (in_order ks)) ≡ true
filtered_keys_rise p ks = is_true _ (rises-filter text_cmp p (in_order ks) (in_order_rises ks))

-- pairs

pub pair_total : IsTotalOrder pair_cmp
pair_total = then_total (on_total (λ (p : Text × Text). p.0) nat_list_cmp_total) (on_total (λ (p : Text × Text). p.1) nat_list_cmp_total)

pub pair_exact : (p q : Text × Text) → pair_cmp p q ≡ Equal → p ≡ q
pair_exact p q e =
    elim (text_cmp p.0 q.0) as (λ r. text_cmp p.0 q.0 ≡ r → ordering_then r (text_cmp p.1 q.1) ≡ Equal → p ≡ q) [
      | Less ↦ λ _ h. absurd (true≢false (sym (ap is_eq h)))
      | Equal ↦ λ f h. λ i. (text_exact p.0 q.0 f i, text_exact p.1 q.1 h i)
      | Greater ↦ λ _ h. absurd (true≢false (sym (ap is_eq h)))
    ] refl e

pub pair_tied : (x y : Text) (p : Text × Text) → is_eq (pair_cmp (x, y) p) ≡ (same_text x p.0 && same_text y p.1)
pair_tied x y p = sym (tied_then (text_cmp x p.0) (text_cmp y p.1)) ∙ (λ i. text_tied x p.0 i && text_tied y p.1 i)

pub same_pairs : (ps qs : List (Text × Text)) → IsStrictlySortedBy pair_cmp ps → pairs_rise qs ≡ true → ((x y : Text) → has_pair ps x y ≡ has_pair qs x y) → ps ≡ qs
same_pairs ps qs f g same =
    same_rising pair_cmp pair_total pair_exact ps qs (strictly_rises pair_cmp ps f) (holds _ g)
    (λ q. any_same _ _ ps (pair_tied q.0 q.1) ∙ same q.0 q.1 ∙ sym (any_same _ _ qs (pair_tied q.0 q.1)))

-- the pairs of one issuer, and of all in order
abbrev of_issuer : Text → List Text → List (Text × Text)
of_issuer a bs = map (λ b. (a, b)) bs

tied_first : (a : Text) (r : Ordering) → ordering_then (text_cmp a a) r ≡ r
tied_first a r = ap (λ o. ordering_then o r) (tied_itself nat_list_cmp_total a)

issuer_below : (a b : Text) (bs : List Text) → below text_cmp b bs → below pair_cmp (a, b) (of_issuer a bs)
issuer_below a b [] h = tt
issuer_below a b (x ∷ bs) h =
    both (is_lt (pair_cmp (a, b) (a, x))) _ (subst (λ r. T (is_lt r)) (sym (tied_first a (text_cmp b x))) (first _ _ h)) (issuer_below a b bs (second _ _ h))

issuer_rises : (a : Text) (bs : List Text) → Rises text_cmp bs → Rises pair_cmp (of_issuer a bs)
issuer_rises a [] h = tt
issuer_rises a (b ∷ bs) h = both (below_all pair_cmp (a, b) (units (of_issuer a bs))) _ (issuer_below a b bs (first _ _ h)) (issuer_rises a bs (second _ _ h))

-- a pair of an earlier issuer
earlier : (a x : Text) (y z : Text) → T (is_lt (text_cmp a x)) → T (is_lt (pair_cmp (a, y) (x, z)))
earlier a x y z h = elim (text_cmp a x) as (λ r. T (is_lt r) → T (is_lt (ordering_then r (text_cmp y z)))) [ Less ↦ λ h. tt | Equal ↦ λ h. absurd h | Greater ↦ λ h. absurd h ] h

earlier_than_issuer : (a y x : Text) (bs : List Text) → T (is_lt (text_cmp a x)) → below pair_cmp (a, y) (of_issuer x bs)
earlier_than_issuer a y x [] h = tt
earlier_than_issuer a y x (b ∷ bs) h = both (is_lt (pair_cmp (a, y) (x, b))) _ (earlier a x y b h) (earlier_than_issuer a y x bs h)

module _ (receivers : Text → List Text) (rise : (a : Text) → Rises text_cmp (receivers a)) where
  abbrev all_of : List Text → List (Text × Text)
  all_of issuers = flat_map (λ a. of_issuer a (receivers a)) issuers

  earlier_than_all : (a y : Text) (issuers : List Text) → below text_cmp a issuers → below pair_cmp (a, y) (all_of issuers)
  earlier_than_all a y [] h = tt
  earlier_than_all a y (x ∷ issuers) h =
      below-append pair_cmp (a, y) (of_issuer x (receivers x)) (all_of issuers) (earlier_than_issuer a y x (receivers x) (first _ _ h)) (earlier_than_all a y issuers (second _ _ h))

  in_issuer : (a : Text) (bs : List Text) (p : Text × Text) → IsIn p (of_issuer a bs) → a ≡ p.0
  in_issuer a [] p there = absurd there
  in_issuer a (b ∷ bs) p (inl e) = sym (ap (λ q. q.0) e)
  in_issuer a (b ∷ bs) p (inr there) = in_issuer a bs p there

  all_rise : (issuers : List Text) → Rises text_cmp issuers → Rises pair_cmp (all_of issuers)
  all_rise [] h = tt
  all_rise (x ∷ issuers) h =
      rises-append pair_cmp (of_issuer x (receivers x)) (all_of issuers) (issuer_rises x (receivers x) (rise x)) (all_rise issuers (second _ _ h))
      (λ p there. earlier_than_all p.0 p.1 issuers (subst (λ a. below text_cmp a issuers) (in_issuer x (receivers x) p there) (first _ _ h)))

pub filtered_pairs_rise : (p : Text × Text → Bool) (ps : List (Text × Text)) → pairs_rise (filter p (pairs_in_order ps)) ≡ true
filtered_pairs_rise p ps =
    is_true _ (rises-filter pair_cmp p (pairs_in_order ps)
    (all_rise (receivers_of ps) (λ a. in_order_rises (map (λ q. q.1) (filter (λ q. same_text a q.0) ps))) (in_order (map (λ q. q.0) ps)) (in_order_rises (map (λ q. q.0) ps))))
