-- What a test of each element says of the whole list, and of two lists one after the other.
use Rattle.std.proofs.Common.{arith, true≢false, sym, refl, take, ◌+◌, ℕ, ◌<◌, Bool, true, false, IsTrue, MatchBool, List, [], ◌∷◌, ◌++◌, length, get_or}
use Rattle.std.specs.List.{AllWithin, HoldsAt, AllByRecursion}
use Rattle.std.proofs.lemmas.List.Elements.{All-from_recursion, recursion_from_All, All-from_all_within, All-more}

-- some element fails
abbrev pub SomeFails : {X : Type 0} → (X → Type 0) → List X → Type 0
SomeFails P xs = (k : ℕ) × (k < length xs) × HoldsAt (λ x. ¬ P x) xs k

not_every : {X : Type 0} (P : X → Type 0) (xs : List X) → SomeFails P xs → ¬ AllByRecursion P xs
not_every P [] some every = absurd (omega arith)
not_every P (x ∷ xs) (k, below, fails) every = fails x (All-from_recursion P (x ∷ xs) every k x below)

pub every_if_all : {X : Type 0} (P : X → Type 0) (xs : List X) (answer : Bool) → MatchBool answer (AllWithin P xs 0 (length xs)) (SomeFails P xs) → (IsTrue answer → AllByRecursion P xs) × (AllByRecursion P xs → IsTrue answer)
every_if_all P xs true all = (λ _. recursion_from_All P xs (All-from_all_within P xs all), λ _. refl)
every_if_all P xs false some = (λ h. absurd (true≢false (sym h)), λ every. absurd (not_every P xs some every))

pub every_append : {X : Type 0} (P : X → Type 0) (xs ys : List X) → AllByRecursion P xs → AllByRecursion P ys → AllByRecursion P (xs ++ ys)
every_append P [] ys p q = q
every_append P (x ∷ xs) ys p q = (p.0, every_append P xs ys p.1 q)

pub every_before : {X : Type 0} (P : X → Type 0) (xs ys : List X) → AllByRecursion P (xs ++ ys) → AllByRecursion P xs
every_before P [] ys p = tt
every_before P (x ∷ xs) ys p = (p.0, every_before P xs ys p.1)

pub every_behind : {X : Type 0} (P : X → Type 0) (xs ys : List X) → AllByRecursion P (xs ++ ys) → AllByRecursion P ys
every_behind P [] ys p = p
every_behind P (x ∷ xs) ys p = every_behind P xs ys p.1

pub every_of_three : {X : Type 0} (P : X → Type 0) (xs ys zs : List X) → AllByRecursion P xs × AllByRecursion P ys × AllByRecursion P zs → AllByRecursion P (xs ++ (ys ++ zs))
every_of_three P xs ys zs p = every_append P xs (ys ++ zs) p.0 (every_append P ys zs p.1 p.2)

pub three_of_every : {X : Type 0} (P : X → Type 0) (xs ys zs : List X) → AllByRecursion P (xs ++ (ys ++ zs)) → AllByRecursion P xs × AllByRecursion P ys × AllByRecursion P zs
three_of_every P xs ys zs p =
    let behind : AllByRecursion P (ys ++ zs) = every_behind P xs (ys ++ zs) p in
    (every_before P xs (ys ++ zs) p, every_before P ys zs behind, every_behind P ys zs behind)

pub every_more : {X : Type 0} (P : X → Type 0) (xs : List X) (i : ℕ) (d : X) → i < length xs → AllByRecursion P (take i xs) → P (get_or xs i d) → AllByRecursion P (take (i + 1) xs)
every_more P xs i d below so_far here =
    recursion_from_All P (take (i + 1) xs) (All-more P xs i d below (All-from_recursion P (take i xs) so_far) here)
