-- Lists in which nothing stands twice, as a set of what stands before a place shows them.
use Rattle.std.proofs.Common.{◌≡◌, ℕ, suc, ◌+◌, ◌<◌, Bool, true, false, not, ◌||◌, ◌&&◌, List, [], ◌∷◌, ◌++◌, take, drop, get_or, length, cond, refl, ap, sym, ◌∙◌, subst, true≢false, arith}
use Rattle.std.specs.List.{list_any}
use Rattle.std.specs.Cmp.{IsEquivalence}
use Rattle.std.proofs.lemmas.List.{take_more, take_all}
use Rattle.std.proofs.Math.Seq.{split_at}
use Rattle.dubp_validity.specs.OfChain.{each_once}

and_false : (a : Bool) → (a && false) ≡ false
and_false true = refl
and_false false = refl

module _ {T : Type 0} (eq : T → T → Bool) where
  -- a value that stands before and again behind stands twice
  stands_behind : (y : T) (xs ys : List T) (x : T) → eq x y ≡ true → list_any (eq x) (xs ++ y ∷ ys) ≡ true
  stands_behind y [] ys x e = rw e
  stands_behind y (z ∷ xs) ys x e = elim (eq x z) as (λ b. (b || list_any (eq x) (xs ++ y ∷ ys)) ≡ true) [ true ↦ refl | false ↦ stands_behind y xs ys x e ]

  twice : IsEquivalence eq → (y : T) (xs ys : List T) → list_any (eq y) xs ≡ true → each_once eq (xs ++ y ∷ ys) ≡ false
  twice laws y [] ys e = absurd (true≢false (sym e))
  twice laws y (x ∷ xs) ys e =
      elim (eq y x) as (λ b. eq y x ≡ b → (b || list_any (eq y) xs) ≡ true → each_once eq (x ∷ (xs ++ y ∷ ys)) ≡ false) [
        | true ↦ λ same _. ap (λ b. not b && each_once eq (xs ++ y ∷ ys)) (stands_behind y xs ys x (laws.symm x y ∙ same))
        | false ↦ λ _ later. ap (λ b. not (list_any (eq x) (xs ++ y ∷ ys)) && b) (twice laws y xs ys later) ∙ and_false _
      ] refl e

  -- one value more
  none_behind : (y : T) (xs : List T) (x : T) → eq x y ≡ false → list_any (eq x) (xs ++ y ∷ []) ≡ list_any (eq x) xs
  none_behind y [] x e = rw e
  none_behind y (z ∷ xs) x e = ap (λ b. eq x z || b) (none_behind y xs x e)

  once_more : IsEquivalence eq → (y : T) (xs : List T) → list_any (eq y) xs ≡ false → each_once eq xs ≡ true → each_once eq (xs ++ y ∷ []) ≡ true
  once_more laws y [] none once = refl
  once_more laws y (x ∷ xs) none once =
      elim (eq y x) as (λ b. eq y x ≡ b → (b || list_any (eq y) xs) ≡ false → each_once eq ((x ∷ xs) ++ y ∷ []) ≡ true) [
        | true ↦ λ _ no. absurd (true≢false no)
        | false ↦ λ other no.
            elim (list_any (eq x) xs) as (λ b. list_any (eq x) xs ≡ b → (not b && each_once eq xs) ≡ true → each_once eq ((x ∷ xs) ++ y ∷ []) ≡ true) [
              | true ↦ λ _ bad. absurd (true≢false (sym bad))
              | false ↦ λ free rest. rw (none_behind y xs x (laws.symm x y ∙ other), free) (once_more laws y xs no rest)
            ] refl once
      ] refl none

  any_last : (k x : T) (xs : List T) → list_any (eq k) (xs ++ x ∷ []) ≡ cond (eq k x) true (list_any (eq k) xs)
  any_last k x [] = elim (eq k x) as (λ b. (b || false) ≡ cond b true false) [ true ↦ refl | false ↦ refl ]
  any_last k x (y ∷ xs) = ap (λ b. eq k y || b) (any_last k x xs) ∙ either (eq k y) (eq k x) (list_any (eq k) xs)
    where
      either : (a b c : Bool) → (a || cond b true c) ≡ cond b true (a || c)
      either true true c = refl
      either true false c = refl
      either false b c = refl

  -- what a set has of the first values of a list, which stand once
  pub record Seen (values : List T) (i : ℕ) (has : T → Bool) : Type 0 where
    pub are : (k : T) → has k ≡ list_any (eq k) (take i values)
    pub once : each_once eq (take i values) ≡ true

  pub seen_one_more : IsEquivalence eq → (values : List T) (i : ℕ) (has new : T → Bool) (x : T) (is_new : Bool) → i < length values → x ≡ get_or values i x
      → Seen values i has → is_new ≡ not (has x) → is_new ≡ true
      → ((k : T) → new k ≡ cond (eq k x) true (has k)) → Seen values (i + 1) new
  seen_one_more laws values i has new x is_new lt at seen e holds put =
      let none : has x ≡ false = elim (has x) as (λ b. is_new ≡ not b → b ≡ false) [ true ↦ λ h. absurd (true≢false (sym holds ∙ h)) | false ↦ λ _. refl ] e in
      let grown : take (i + 1) values ≡ take i values ++ x ∷ [] = take_more values i x lt ∙ ap (λ z. take i values ++ z ∷ []) (sym at) in
      record {
        are = λ k. put k ∙ ap (λ b. cond (eq k x) true b) (seen.are k) ∙ sym (any_last k x (take i values)) ∙ ap (list_any (eq k)) (sym grown);
        once = subst (λ l. each_once eq l ≡ true) (sym grown) (once_more laws x (take i values) (sym (seen.are x) ∙ none) seen.once);
      }

  pub seen_twice : IsEquivalence eq → (values : List T) (i : ℕ) (has : T → Bool) (x : T) (is_new : Bool) → i < length values → x ≡ get_or values i x
      → Seen values i has → is_new ≡ not (has x) → is_new ≡ false → each_once eq values ≡ false
  seen_twice laws values i has x is_new lt at seen e fails =
      let there : has x ≡ true = elim (has x) as (λ b. is_new ≡ not b → b ≡ true) [ true ↦ λ _. refl | false ↦ λ h. absurd (true≢false (sym h ∙ fails)) ] e in
      let before : list_any (eq x) (take i values) ≡ true = sym (seen.are x) ∙ there in
      subst (λ l. each_once eq l ≡ false) (sym (split_at values i x lt))
      (subst (λ z. each_once eq (take i values ++ z ∷ drop (suc i) values) ≡ false) at (twice laws x (take i values) (drop (suc i) values) before))

  pub seen_all : (values : List T) (i : ℕ) (has : T → Bool) → i ≡ length values → Seen values i has → each_once eq values ≡ true
  seen_all values i has e seen = subst (λ k. each_once eq k ≡ true) (take_all i values (omega arith)) seen.once
