-- Readers of lines, one place after another. A reader gives a value and the place behind it, or how many lines are left, from
-- the first that is not taken at its place.
use Rattle.std.specs.Prelude.{ℕ, zero, suc, Bool, List, [], ◌∷◌, length, Option, Some, None, Result, Ok, Err, if◌then◌else◌}
use Rattle.dubp_lines.specs.Lines.{Place}
use Rattle.dubp_lines.specs.Taking.{line_at, named, begins_with, next_passes}

abbrev pub Reader : Type 0 → Type 0
Reader A = Place → Result (A × Place) ℕ

-- where a value was read, what is read behind it
abbrev pub go_on : {A B : Type 0} → Result (A × Place) ℕ → (A → Reader B) → Result (B × Place) ℕ
go_on (Ok x) next = next x.0 x.1
go_on (Err left) next = Err left

unfoldable pub and_then : {A B : Type 0} → Reader A → (A → Reader B) → Reader B
and_then read next p = go_on (read p) next

infixl 10 ◌>>=◌
abbrev pub ◌>>=◌ : {A B : Type 0} → Reader A → (A → Reader B) → Reader B
read >>= next = and_then read next

-- the value, and no line
abbrev pub gives : {A : Type 0} → A → Reader A
gives a p = Ok (a, p)

-- a line of this name and a value, where the next line has the name
abbrev pub optional : {A : Type 0} → List ℕ → (List ℕ → Option A) → Reader (Option A)
optional name read p =
    if next_passes (begins_with name) p.0
    then go_on (line_at (named name read) p) (λ a. gives (Some a))
    else Ok (None, p)

-- so many lines
abbrev pub rows : {A : Type 0} → ℕ → (List ℕ → Option A) → Reader (List A)
rows zero read = gives []
rows (suc n) read = do
  x ← line_at read
  xs ← rows n read
  gives (x ∷ xs)

-- entries, up to the lines that stop them; fewer than so many
abbrev pub many : {A : Type 0} → ℕ → (List (List ℕ) → Bool) → Reader A → Reader (List A)
many zero stops read p = Err (length p.0)
many (suc n) stops read p =
    if stops p.0
    then Ok ([], p)
    else (read >>= (λ x. many n stops read >>= (λ xs. gives (x ∷ xs)))) p

-- entries, up to the lines that stop them: of one line or more, so that there are no more of them than lines
unfoldable pub entries : {A : Type 0} → (List (List ℕ) → Bool) → Reader A → Reader (List A)
entries stops read p = many (suc (length p.0)) stops read p
