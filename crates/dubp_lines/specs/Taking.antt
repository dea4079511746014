-- Reading line after line: at each place one line is taken. An Err has how many lines are left, from the first that is not
-- taken at its place, so that the number of that line follows.
use Rattle.std.specs.Prelude.{◌≡◌, ℕ, ℤ, ◌+◌, ◌-◌, Bool, List, [], ◌∷◌, length, take, drop, nat_eq, false, Option, Some, None, Result, Ok, Err, option_and_then, if◌then◌else◌}
use Rattle.std.specs.Cmp.Lexicographic.{pointwise}
use Rattle.dubp_atoms.specs.Reading.{text_if, number_of, signed_of}
use Rattle.dubp_lines.specs.declared.refusal.Refused.{Refused}
use Rattle.dubp_lines.specs.declared.refusal.LineRefusal.{LineRefusal}
use Rattle.dubp_lines.specs.declared.refusal.LineRefusal.TheVariants as refusals
use Rattle.dubp_lines.specs.Lines.{Place, split}

infixl 10 ◌>>=◌
abbrev pub ◌>>=◌ : {A B : Type 0} → Result A ℕ → (A → Result B ℕ) → Result B ℕ
(Ok x) >>= f = f x
(Err e) >>= f = Err e

-- what a function returned, seen by view, is what reading gives
abbrev pub Gives : {X Y : Type 0} → (X → Y) → Result X Refused → Result Y ℕ → Type 0
Gives view (Ok x) read = read ≡ Ok (view x)
Gives view (Err refused) read = read ≡ Err refused.left

-- the same of a function that takes memory: where there is no room, it says nothing of the lines
abbrev pub Refuses : {Y : Type 0} → LineRefusal → Result Y ℕ → Type 0
Refuses refusals.NoMemory read = Unit {0}
Refuses (refusals.Left n) read = read ≡ Err n

abbrev pub GivesInRoom : {X Y : Type 0} → (X → Y) → Result X LineRefusal → Result Y ℕ → Type 0
GivesInRoom view (Ok x) read = read ≡ Ok (view x)
GivesInRoom view (Err e) read = Refuses e read

abbrev pub same_line : List ℕ → List ℕ → Bool
same_line wanted line = pointwise nat_eq line wanted

abbrev pub begins_with : List ℕ → List ℕ → Bool
begins_with name line = pointwise nat_eq (take (length name) line) name

-- whether there is a next line, and it passes the test
abbrev pub next_passes : (List ℕ → Bool) → List (List ℕ) → Bool
next_passes test [] = false
next_passes test (l ∷ ls) = test l

-- what stands behind the name
abbrev pub value_of : List ℕ → List ℕ → Option (List ℕ)
value_of name line = if begins_with name line then Some (drop (length name) line) else None

-- the value with what is left, or how many lines are left where there is none
abbrev pub taken_or : {A : Type 0} → ℕ → Place → Option A → Result (A × Place) ℕ
taken_or left rest None = Err left
taken_or left rest (Some x) = Ok (x, rest)

abbrev pub line_of : {A : Type 0} → (List ℕ → Option A) → List (List ℕ) → List ℕ → Result (A × Place) ℕ
line_of read [] tail = Err 0
line_of read (l ∷ ls) tail = taken_or (length (l ∷ ls)) (ls, tail) (read l)

-- the next line, where it is read as a value
abbrev pub line_at : {A : Type 0} → (List ℕ → Option A) → Place → Result (A × Place) ℕ
line_at read p = line_of read p.0 p.1

-- the next line, which is not taken
abbrev pub first_of : List (List ℕ) → Result (List ℕ) ℕ
first_of [] = Err 0
first_of (l ∷ ls) = Ok l

abbrev pub first_at : Place → Result (List ℕ) ℕ
first_at p = first_of p.0

-- a name and a value
abbrev pub named : {A : Type 0} → List ℕ → (List ℕ → Option A) → List ℕ → Option A
named name read line = option_and_then read (value_of name line)

-- just this line
abbrev pub just : List ℕ → List ℕ → Option (List ℕ)
just text line = if same_line text line then Some line else None

abbrev pub number_line : List ℕ → Place → Result (ℕ × Place) ℕ
number_line name p = line_at (named name number_of) p

abbrev pub signed_line : List ℕ → Place → Result (ℤ × Place) ℕ
signed_line name p = line_at (named name signed_of) p

-- a line of a name and a text that passes the test
abbrev pub text_line : (List ℕ → Bool) → List ℕ → Place → Result (List ℕ × Place) ℕ
text_line test name p = line_at (named name (text_if test)) p

-- the number of the first line that is not taken at its place, from 1
abbrev pub line_number : List ℕ → ℕ → ℕ
line_number text left = length (split text).0 - left + 1
