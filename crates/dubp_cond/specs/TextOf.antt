-- A text is one of these values': what a reader gives a value for, and what may want memory.
use Rattle.std.specs.Prelude.{ℕ, ◌≡◌, List}

-- it is the text of some value in range
abbrev pub IsTextOf : {A : Type 0} → (A → Type 0) → (A → List ℕ) → List ℕ → Type 0
IsTextOf {A} InRange spelling text = (x : A) × InRange x × (text ≡ spelling x)
