-- How many of a list pass a test, and how many of the sought numbers are not found.
use Rattle.std.proofs.Common.{◌≡◌, ℕ, zero, suc, ◌+◌, ◌<◌, nat_eq, Bool, true, false, cond, not, ◌&&◌, ◌||◌, List, [], ◌∷◌, ◌++◌, Some, map, filter, length, slice_get, get_or, set, take, refl, sym, ap, subst, ◌∙◌, true≢false, arith}
use Rattle.std.specs.Prelude.{count_by}
use Rattle.std.specs.List.{list_any}
use Rattle.std.proofs.lemmas.Bool.{not-false}
use Rattle.std.proofs.lemmas.List.{get_or-set_same, get_or-set_other}
use Rattle.std.proofs.lemmas.List.Folds.{list_any-append}
use Rattle.std.proofs.lemmas.List.Sums.{sum_by-cons, count_by_more_yes, count_by_more_no}
use Rattle.std.proofs.lemmas.Option.{same_Some}
use Rattle.dubp_wot.specs.Search.{In}
use Rattle.dubp_wot.specs.Sought.{missing}
use Rattle.dubp_wot.proofs.Levels.{In-from_any, any_from_In}
use Rattle.dubp_wot.proofs.Numbered.{nat_same, nat_own}

-- two tests of which each follows from the other
pub alike : (s t : Bool) → (s ≡ true → t ≡ true) → (t ≡ true → s ≡ true) → s ≡ t
alike true t h k = sym (h refl)
alike false true h k = k refl
alike false false h k = refl

-- ---- how many pass

no_one : (t : Bool) → ◌≡◌ {A = ℕ} (cond t 1 0) 0 → t ≡ false
no_one true h = absurd (omega arith)
no_one false h = refl

module _ {X : Type 0} where
  count-cons : (p : X → Bool) (x : X) (xs : List X) → count_by p (x ∷ xs) ≡ cond (p x) 1 0 + count_by p xs
  count-cons p x xs = sum_by-cons (λ y. cond (p y) 1 0) x xs

  -- each element passes r as often as p and q together
  pub counts-add : (p q r : X → Bool) → ((x : X) → cond (p x) 1 0 + cond (q x) 1 0 ≡ cond (r x) 1 0) → (xs : List X) → count_by p xs + count_by q xs ≡ count_by r xs
  counts-add p q r each [] = refl
  counts-add p q r each (x ∷ xs) =
      let one = each x in
      let rest = counts-add p q r each xs in
      ap (λ n. n + count_by q (x ∷ xs)) (count-cons p x xs)
      ∙ ap (λ n. cond (p x) 1 0 + count_by p xs + n) (count-cons q x xs)
      ∙ omega arith
      ∙ sym (count-cons r x xs)

  -- two tests agree at the elements of the list
  pub counts-same : (p q : X → Bool) (xs : List X) → ((x : X) → In xs x → p x ≡ q x) → count_by p xs ≡ count_by q xs
  counts-same p q [] same = refl
  counts-same p q (x ∷ xs) same =
      count-cons p x xs
      ∙ ap (λ (t : Bool). cond t 1 0 + count_by p xs) (same x (0, refl))
      ∙ ap (λ n. cond (q x) 1 0 + n) (counts-same p q xs (λ y m. same y (suc m.0, m.1)))
      ∙ sym (count-cons q x xs)

  pub count-filter : (p q : X → Bool) (xs : List X) → count_by q (filter p xs) ≡ count_by (λ x. p x && q x) xs
  count-filter p q [] = refl
  count-filter p q (x ∷ xs) =
      let rest = count-filter p q xs in
      (elim (p x) as (λ t. count_by q (cond t (x ∷ filter p xs) (filter p xs)) ≡ cond (t && q x) 1 0 + count_by (λ y. p y && q y) xs) [
        | true ↦ count-cons q x (filter p xs) ∙ ap (λ n. cond (q x) 1 0 + n) rest
        | false ↦ rest ∙ omega arith
      ])
      ∙ sym (count-cons (λ y. p y && q y) x xs)

  -- where none passes, each fails
  pub count-none : (p : X → Bool) (xs : List X) → count_by p xs ≡ 0 → (x : X) (i : ℕ) → slice_get xs i ≡ Some x → p x ≡ false
  count-none p [] none x i h = cc
  count-none p (y ∷ ys) none x zero h =
      let parts : cond (p y) 1 0 + count_by p ys ≡ 0 = sym (count-cons p y ys) ∙ none in
      subst (λ z. p z ≡ false) (same_Some y x h) (no_one (p y) (omega arith))
  count-none p (y ∷ ys) none x (suc i) h =
      let parts : cond (p y) 1 0 + count_by p ys ≡ 0 = sym (count-cons p y ys) ∙ none in
      count-none p ys (omega arith) x i h

module _ {X Y : Type 0} (f : X → Y) (q : Y → Bool) where
  pub count-map : (xs : List X) → count_by q (map f xs) ≡ count_by (λ x. q (f x)) xs
  count-map [] = refl
  count-map (x ∷ xs) = count-cons q (f x) (map f xs) ∙ ap (λ n. cond (q (f x)) 1 0 + n) (count-map xs) ∙ sym (count-cons (λ y. q (f y)) x xs)

-- ---- numbers that are not found

nat_eq-swap : (x y : ℕ) → nat_eq x y ≡ nat_eq y x
nat_eq-swap x y =
    alike (nat_eq x y) (nat_eq y x) (λ h. subst (λ z. nat_eq y z ≡ true) (sym (nat_same x y h)) (nat_own y))
    (λ h. subst (λ z. nat_eq x z ≡ true) (sym (nat_same y x h)) (nat_own x))

pub missing-none : (numbers : List ℕ) → missing numbers [] ≡ length numbers
missing-none [] = refl
missing-none (q ∷ qs) = let rest = missing-none qs in count-cons (λ n. not (list_any (nat_eq n) [])) q qs ∙ omega arith

put_one : (a e : Bool) → (e ≡ true → a ≡ false) → cond (not (a || (e || false))) 1 0 + cond e 1 0 ≡ cond (not a) 1 0
put_one true true h = absurd (true≢false (h refl))
put_one true false h = refl
put_one false true h = refl
put_one false false h = refl

-- a number more is found
pub missing-put : (numbers found : List ℕ) (n : ℕ) → list_any (nat_eq n) found ≡ false → missing numbers (found ++ n ∷ []) + count_by (nat_eq n) numbers ≡ missing numbers found
missing-put numbers found n new = counts-add (λ q. not (list_any (nat_eq q) (found ++ n ∷ []))) (nat_eq n) (λ q. not (list_any (nat_eq q) found)) one numbers
  where
    one : (q : ℕ) → cond (not (list_any (nat_eq q) (found ++ n ∷ []))) 1 0 + cond (nat_eq n q) 1 0 ≡ cond (not (list_any (nat_eq q) found)) 1 0
    one q =
        ap (λ (t : Bool). cond (not t) 1 0 + cond (nat_eq n q) 1 0)
        (list_any-append (nat_eq q) found (n ∷ []) ∙ ap (λ (t : Bool). list_any (nat_eq q) found || (t || false)) (nat_eq-swap q n))
        ∙ put_one (list_any (nat_eq q) found) (nat_eq n q) (λ e. subst (λ z. list_any (nat_eq z) found ≡ false) (nat_same n q e) new)

split_one : (a e : Bool) → (e ≡ true → a ≡ true) → cond (not a) 1 0 + cond (a && not e) 1 0 ≡ cond (not (e || false)) 1 0
split_one true true h = refl
split_one true false h = refl
split_one false true h = absurd (true≢false (sym (h refl)))
split_one false false h = refl

-- those other than the first are found or not
pub missing-first : (numbers found : List ℕ) (first : ℕ) → In found first
    → missing numbers found + count_by (λ q. list_any (nat_eq q) found && not (nat_eq q first)) numbers ≡ missing numbers (first ∷ [])
missing-first numbers found first m =
    counts-add (λ q. not (list_any (nat_eq q) found)) (λ q. list_any (nat_eq q) found && not (nat_eq q first)) (λ q. not (list_any (nat_eq q) (first ∷ []))) one numbers
  where
    one : (q : ℕ) → cond (not (list_any (nat_eq q) found)) 1 0 + cond (list_any (nat_eq q) found && not (nat_eq q first)) 1 0 ≡ cond (not (list_any (nat_eq q) (first ∷ []))) 1 0
    one q =
        split_one (list_any (nat_eq q) found) (nat_eq q first)
        (λ e. subst (λ z. list_any (nat_eq z) found ≡ true) (sym (nat_same q first e)) (any_from_In nat_eq nat_same nat_own found first m.0 m.1))

-- where none is missing, each is found
pub found-all : (numbers found : List ℕ) → missing numbers found ≡ 0 → (n : ℕ) → In numbers n → In found n
found-all numbers found none n m =
    In-from_any nat_eq nat_same found n
    (not-false (list_any (nat_eq n) found) (count-none (λ q. not (list_any (nat_eq q) found)) numbers none n m.0 m.1))

-- ---- how often each stands in a list, with the next one

pub counts-next : (numbers old : List ℕ) (i n : ℕ) → i < length numbers → n ≡ get_or numbers i n → n < length old
    → ((m : ℕ) → get_or old m 0 ≡ count_by (nat_eq m) (take i numbers)) → (m : ℕ) → get_or (set old n (get_or old n 0 + 1)) m 0 ≡ count_by (nat_eq m) (take (i + 1) numbers)
counts-next numbers old i n within here room before m = by (nat_eq m n) refl
  where
    by : (t : Bool) → nat_eq m n ≡ t → get_or (set old n (get_or old n 0 + 1)) m 0 ≡ count_by (nat_eq m) (take (i + 1) numbers)
    by true e =
        let same = nat_same m n e in
        subst (λ z. get_or (set old n (get_or old n 0 + 1)) z 0 ≡ get_or old n 0 + 1) (sym same) (get_or-set_same old n (get_or old n 0 + 1) 0 room)
        ∙ ap (λ z. z + 1) (subst (λ z. get_or old z 0 ≡ count_by (nat_eq m) (take i numbers)) same (before m))
        ∙ sym (count_by_more_yes (nat_eq m) numbers i n within (subst (λ z. nat_eq m z ≡ true) here e))
    by false e =
        get_or-set_other old n m (get_or old n 0 + 1) 0 (λ s. true≢false (sym (nat_own m) ∙ ap (nat_eq m) s ∙ e))
        ∙ before m
        ∙ sym (count_by_more_no (nat_eq m) numbers i n within (subst (λ z. nat_eq m z ≡ false) here e))
