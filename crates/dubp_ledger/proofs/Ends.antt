-- A list that stands oldest first without its last elements.
use Rattle.std.proofs.Common.{◌≡◌, ◌-◌, ◌≤◌, ◌<◌, ◌++◌, ℕ, Bool, true, false, nat_le, List, length, length-drop, drop, min, take, reverse, take-append-drop, refl, sym, ap, ◌∙◌, arith}
use Rattle.std.proofs.lemmas.Bool.Decides.{nat_tests}
use Rattle.std.proofs.lemmas.List.{reverse-append, length-reverse, drop_all, take_all}
use Rattle.std.proofs.Math.Seq.{drop-append_seam}

module _ {X : Type 0} where
  off_some : (xs ys : List X) (n m : ℕ) → ys ≡ take m xs → m ≡ length xs - n → n ≤ length xs → reverse ys ≡ drop n (reverse xs)
  off_some xs ys n m taken is few =
      let last : length (reverse (drop m xs)) ≡ n = omega (arith, length-reverse (drop m xs), length-drop m xs, is) in
      let whole : reverse xs ≡ reverse (drop m xs) ++ reverse (take m xs) = ap reverse (sym (take-append-drop m xs)) ∙ reverse-append (take m xs) (drop m xs) in
      ap reverse taken ∙ sym (ap (drop n) whole ∙ ap (λ k. drop k (reverse (drop m xs) ++ reverse (take m xs))) (sym last) ∙ drop-append_seam (reverse (drop m xs)) (reverse (take m xs)))

  off_all : (xs ys : List X) (n m : ℕ) → ys ≡ take m xs → m ≡ length xs - n → length xs < n → reverse ys ≡ drop n (reverse xs)
  off_all xs ys n m taken is many =
      let none : m ≡ 0 = omega (arith, is, many) in
      ap reverse (taken ∙ ap (λ k. take k xs) none) ∙ sym (drop_all n (reverse xs) (omega (arith, length-reverse xs, many)))

  off_by : (b : Bool) (xs ys : List X) (n m : ℕ) → nat_le n (length xs) ≡ b → ys ≡ take m xs → m ≡ length xs - n → reverse ys ≡ drop n (reverse xs)
  off_by true xs ys n m le taken is = off_some xs ys n m taken is (grind (arith, nat_tests, le))
  off_by false xs ys n m le taken is = off_all xs ys n m taken is (grind (arith, nat_tests, le))

  pub last_off : (xs ys : List X) (n m : ℕ) → ys ≡ take m xs → m ≡ length xs - n → reverse ys ≡ drop n (reverse xs)
  last_off xs ys n m taken is = off_by (nat_le n (length xs)) xs ys n m refl taken is

-- as many as there are, where more are asked for
module _ {X : Type 0} where
  cut_by : (b : Bool) (xs : List X) (n m : ℕ) → nat_le n (length xs) ≡ b → m ≡ min n (length xs) → (drop m xs ≡ drop n xs) × (take m xs ≡ take n xs)
  cut_by true xs n m le is =
      let few : n ≤ length xs = grind (arith, nat_tests, le) in
      let same : m ≡ n = omega (arith, few, is) in
      (ap (λ k. drop k xs) same, ap (λ k. take k xs) same)
  cut_by false xs n m le is =
      let many : length xs < n = grind (arith, nat_tests, le) in
      let same : m ≡ length xs = omega (arith, many, is) in (
        ap (λ k. drop k xs) same ∙ drop_all (length xs) xs (omega arith) ∙ sym (drop_all n xs (omega (arith, many))),
        ap (λ k. take k xs) same ∙ take_all (length xs) xs (omega arith) ∙ sym (take_all n xs (omega (arith, many))),
      )

  pub cut_at_most : (xs : List X) (n m : ℕ) → m ≡ min n (length xs) → (drop m xs ≡ drop n xs) × (take m xs ≡ take n xs)
  cut_at_most xs n m is = cut_by (nat_le n (length xs)) xs n m refl is
