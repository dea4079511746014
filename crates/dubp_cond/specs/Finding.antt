-- Two facts of a reading from the front of a text, which make it the inverse of a spelling.
use Rattle.std.specs.Prelude.{◌≡◌, ℕ, List, [], ◌∷◌, ◌++◌, Some}
use Rattle.std.specs.List.{AllByRecursion}
use Rattle.dubp_cond.specs.Separated.{Read}

-- what it reads is the text of the value, and the value is good
abbrev pub Finds : {A : Type 0} → Read A → (A → List ℕ) → (A → Type 0) → Type 0
Finds {A} read spell Good = (text : List ℕ) (x : A) (rest : List ℕ) → read text ≡ Some (x, rest) → (text ≡ spell x ++ rest) × Good x

-- the text of a good value is read again, before a text that cannot belong to it
abbrev pub Again : {A : Type 0} → Read A → (A → List ℕ) → (A → Type 0) → (List ℕ → Type 0) → Type 0
Again {A} read spell Good Ends = (x : A) (rest : List ℕ) → Good x → Ends rest → read (spell x ++ rest) ≡ Some (x, rest)

-- one value or more, each of them good
abbrev pub OneOrMore : {A : Type 0} → (A → Type 0) → List A → Type 0
OneOrMore Good [] = ⊥
OneOrMore Good (x ∷ xs) = Good x × AllByRecursion Good xs
