-- Elements of a list that pass a test, counted one by one.
use Rattle.std.proofs.Common.{◌≡◌, ℕ, ◌+◌, Bool, true, false, cond, List, [], ◌∷◌, ◌++◌, Some, take, slice_get, get_or, count_by, sym, ap, ◌∙◌, arith}
use Rattle.std.proofs.lemmas.List.{take_more}
use Rattle.std.proofs.lemmas.List.Sums.{sum_by-append, sum_by-cons}
use Rattle.std.proofs.lemmas.Option.{slice_get_within, slice_get-get_or, same_Some}

module _ {X : Type 0} (p : X → Bool) (xs : List X) (i : ℕ) (x : X) (at : slice_get xs i ≡ Some x) where
  taken : take (i + 1) xs ≡ take i xs ++ x ∷ []
  taken =
      let within = slice_get_within xs i x at in
      take_more xs i x within ∙ ap (λ y. take i xs ++ y ∷ []) (same_Some (get_or xs i x) x (sym (slice_get-get_or xs i x within) ∙ at))

  counted_more : count_by p (take (i + 1) xs) ≡ count_by p (take i xs) + cond (p x) 1 0
  counted_more =
      ap (count_by p) taken ∙ sum_by-append (λ y. cond (p y) 1 0) (take i xs) (x ∷ [])
      ∙ ap (λ n. count_by p (take i xs) + n) (omega (arith, sum_by-cons (λ y. cond (p y) 1 0) x []))

  pub one_passes : (n : ℕ) → n ≡ count_by p (take i xs) → p x ≡ true → n + 1 ≡ count_by p (take (i + 1) xs)
  one_passes n e passes = ap (λ m. m + 1) e ∙ sym (counted_more ∙ ap (λ (t : Bool). count_by p (take i xs) + cond t 1 0) passes)

  pub one_fails : (n : ℕ) → n ≡ count_by p (take i xs) → p x ≡ false → n ≡ count_by p (take (i + 1) xs)
  one_fails n e fails = let same = counted_more ∙ ap (λ (t : Bool). count_by p (take i xs) + cond t 1 0) fails in omega (arith, e, same)
