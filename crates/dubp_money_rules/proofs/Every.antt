-- What a test of each element says of the whole list.
use Rattle.std.proofs.Common.{arith, true≢false, sym, refl, ℕ, ◌<◌, Bool, true, false, IsTrue, MatchBool, List, [], ◌∷◌, length}
use Rattle.std.specs.List.{AllWithin, HoldsAt, AllByRecursion}
use Rattle.std.proofs.lemmas.List.Elements.{All-from_recursion, recursion_from_All, All-from_all_within}

-- some element fails
abbrev pub SomeFails : {X : Type 0} → (X → Type 0) → List X → Type 0
SomeFails P xs = (k : ℕ) × (k < length xs) × HoldsAt (λ x. ¬ P x) xs k

not_every : {X : Type 0} (P : X → Type 0) (xs : List X) → SomeFails P xs → ¬ AllByRecursion P xs
not_every P [] some every = absurd (omega arith)
not_every P (x ∷ xs) (k, below, fails) every = fails x (All-from_recursion P (x ∷ xs) every k x below)

pub every_if_all : {X : Type 0} (P : X → Type 0) (xs : List X) (answer : Bool) → MatchBool answer (AllWithin P xs 0 (length xs)) (SomeFails P xs) → (IsTrue answer → AllByRecursion P xs) × (AllByRecursion P xs → IsTrue answer)
every_if_all P xs true all = (λ _. recursion_from_All P xs (All-from_all_within P xs all), λ _. refl)
every_if_all P xs false some = (λ h. absurd (true≢false (sym h)), λ every. absurd (not_every P xs some every))
