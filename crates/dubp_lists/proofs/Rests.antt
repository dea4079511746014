-- A list of which the first elements have passed: the whole has a property where what is left has it.
use Rattle.std.proofs.Common.{◌≡◌, ◌↔◌, ℕ, suc, ◌+◌, ◌<◌, ◌≤◌, Bool, true, false, IsTrue, List, ◌∷◌, drop, get_or, length, refl, ap, sym, ◌∙◌, subst, add-one, true≢false}
use Rattle.std.specs.List.{AllByRecursion}
use Rattle.std.proofs.Math.Seq.{drop-cons}
use Rattle.std.proofs.Math.ListN.{drop_of_length-le}

module _ {X : Type 0} (P : X → Type 0) where
  pub record Rests (xs : List X) (i : ℕ) : Type 0 where
    pub forth : AllByRecursion P xs → AllByRecursion P (drop i xs)
    pub back : AllByRecursion P (drop i xs) → AllByRecursion P xs

  next : (xs : List X) (i : ℕ) (x : X) → i < length xs → x ≡ get_or xs i x → drop i xs ≡ x ∷ drop (i + 1) xs
  next xs i x lt at = drop-cons xs i x lt ∙ ap (λ z. z ∷ drop (suc i) xs) (sym at) ∙ ap (λ n. x ∷ drop n xs) (sym (add-one i))

  pub rests_first : (xs : List X) → Rests xs 0
  rests_first xs = record { forth = λ all. all; back = λ all. all }

  pub rests_one_more : (xs : List X) (i : ℕ) (x : X) → i < length xs → x ≡ get_or xs i x → P x → Rests xs i → Rests xs (i + 1)
  rests_one_more xs i x lt at holds rests =
      let e = next xs i x lt at in
      record {
        forth = λ all. (subst (AllByRecursion P) e (rests.forth all)).1;
        back = λ left. rests.back (subst (AllByRecursion P) (sym e) (holds, left));
      }

  pub rests_fails : (xs : List X) (i : ℕ) (x : X) → i < length xs → x ≡ get_or xs i x → (P x → ⊥) → Rests xs i → AllByRecursion P xs → ⊥
  rests_fails xs i x lt at fails rests all = fails (subst (AllByRecursion P) (next xs i x lt at) (rests.forth all)).0

  pub rests_all : (xs : List X) (i : ℕ) → length xs ≤ i → Rests xs i → AllByRecursion P xs
  rests_all xs i le rests = rests.back (subst (AllByRecursion P) (sym (drop_of_length-le xs le)) tt)

module _ {X : Type 0} (P : X → Type 0) (xs : List X) (i : ℕ) where
  -- an element fails
  pub fails_all : (x : X) (answer : Bool) → i < length xs → x ≡ get_or xs i x → (IsTrue answer ↔ P x) → answer ≡ false → Rests P xs i → IsTrue false ↔ AllByRecursion P xs
  fails_all x answer lt at says fails rests = (
    λ h. absurd (true≢false (sym h)),
    λ every. absurd (rests_fails P xs i x lt at (λ holds. true≢false (sym (says.1 holds) ∙ fails)) rests every),
  )

  -- none is left
  pub passes_all : length xs ≤ i → Rests P xs i → IsTrue true ↔ AllByRecursion P xs
  passes_all end rests = (λ h. rests_all P xs i end rests, λ every. refl)
