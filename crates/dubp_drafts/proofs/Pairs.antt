-- The pairs of a person with each other of a list, one element further.
use Rattle.std.proofs.Common.{◌≡◌, ℕ, ◌+◌, ◌<◌, ◌==◌, Bool, true, false, not, cond, List, [], ◌∷◌, ◌++◌, length, get_or, take, map, filter, ap, sym, arith, ◌∙◌, append_assoc, append-nil}
use Rattle.std.proofs.lemmas.Bool.{ne_eqb}
use Rattle.std.proofs.lemmas.Bool.Decides.{nat_tests}
use Rattle.std.proofs.lemmas.List.{map-append}
use Rattle.std.proofs.lemmas.List.Elements.{filter_more}

abbrev pub with_others : ℕ → List ℕ → List (ℕ × ℕ)
with_others person xs = map (λ j. (person, j)) (filter (λ j. not (person == j)) xs)

-- the pair with the element, where the test of the element has this answer
abbrev with_one : ℕ → ℕ → Bool → List (ℕ × ℕ)
with_one person other differs = map (λ j. (person, j)) (cond differs (other ∷ []) [])

with_others-more : (person : ℕ) (xs : List ℕ) (i : ℕ) → i < length xs
    → with_others person (take (i + 1) xs) ≡ with_others person (take i xs) ++ with_one person (get_or xs i 0) (not (person == get_or xs i 0))
with_others-more person xs i h =
    ap (map (λ j. (person, j))) (filter_more (λ j. not (person == j)) xs i 0 h) ∙ map-append (λ j. (person, j)) (filter (λ j. not (person == j)) (take i xs)) _

same_is : (a b : ℕ) → a ≡ b → not (a == b) ≡ false
same_is a b e = grind (arith, nat_tests)

other_is : (a b : ℕ) → (a ≡ b → ⊥) → not (a == b) ≡ true
other_is a b ne = ap not (ne_eqb a b ne)

pub with_one_more : (person other : ℕ) (xs : List ℕ) (i : ℕ) (start old new : List (ℕ × ℕ)) → i < length xs
    → other ≡ get_or xs i 0
    → (person ≡ other → ⊥)
    → old ≡ start ++ with_others person (take i xs)
    → new ≡ old ++ (person, other) ∷ []
    → new ≡ start ++ with_others person (take (i + 1) xs)
with_one_more person other xs i start old new h e ne o n =
    let test : not (person == get_or xs i 0) ≡ true = other_is person (get_or xs i 0) (λ s. ne (s ∙ sym e)) in
    let more : with_others person (take (i + 1) xs) ≡ with_others person (take i xs) ++ (person, other) ∷ [] = with_others-more person xs i h ∙ ap (λ b. with_others person (take i xs) ++ with_one person (get_or xs i 0) b) test ∙ ap (λ y. with_others person (take i xs) ++ (person, y) ∷ []) (sym e) in
    n ∙ ap (λ l. l ++ (person, other) ∷ []) o ∙ append_assoc start (with_others person (take i xs)) ((person, other) ∷ []) ∙ ap (λ l. start ++ l) (sym more)

pub with_none_more : (person other : ℕ) (xs : List ℕ) (i : ℕ) (start old : List (ℕ × ℕ)) → i < length xs
    → other ≡ get_or xs i 0
    → person ≡ other
    → old ≡ start ++ with_others person (take i xs)
    → old ≡ start ++ with_others person (take (i + 1) xs)
with_none_more person other xs i start old h e s o =
    let test : not (person == get_or xs i 0) ≡ false = same_is person (get_or xs i 0) (s ∙ e) in
    let more : with_others person (take (i + 1) xs) ≡ with_others person (take i xs) = with_others-more person xs i h ∙ ap (λ b. with_others person (take i xs) ++ with_one person (get_or xs i 0) b) test ∙ append-nil (with_others person (take i xs)) in
    o ∙ ap (λ l. start ++ l) (sym more)
