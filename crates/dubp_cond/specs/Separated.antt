-- Reading from the front of a text: what is read, and what is left of the text. It mirrors code.
use Rattle.std.specs.Prelude.{ℕ, zero, suc, ◌==◌, List, [], ◌∷◌, length, Option, Some, None, option_map, if◌then◌else◌}
use Rattle.dubp_atoms.specs.Reading.{◌>>=◌, field}
use Rattle.dubp_cond.specs.Signs.{RIGHT_PARENTHESIS}

abbrev pub Read : Type 0 → Type 0
Read A = List ℕ → Option (A × List ℕ)

-- what follows the word, where the text begins with it
abbrev pub after : List ℕ → List ℕ → Option (List ℕ)
after [] text = Some text
after (w ∷ ws) [] = None
after (w ∷ ws) (c ∷ cs) = if w == c then after ws cs else None

-- one reading where the first gives a value, and another where not
abbrev pub either : {A B : Type 0} → Option A → (A → Option B) → Option B → Option B
either None f other = other
either (Some x) f other = f x

abbrev pub read_map : {A B : Type 0} → (A → B) → Option (A × List ℕ) → Option (B × List ℕ)
read_map f r = option_map (λ p. (f p.0, p.1)) r

-- a value that ends at the next `)`
abbrev pub closed : {A : Type 0} → (List ℕ → Option A) → Read A
closed read text = field RIGHT_PARENTHESIS read text (λ x rest. Some (x, rest))

-- the value, where nothing is left
abbrev pub if_last : {A : Type 0} → A × List ℕ → Option A
if_last p = if length p.1 == 0 then Some p.0 else None

abbrev pub go_on : {A : Type 0} → Read (List A) → A → Option (List ℕ) → Read (List A)
go_on more x None rest = Some (x ∷ [], rest)
go_on more x (Some next) rest = read_map (λ xs. x ∷ xs) (more next)

-- one value or more, at most so many, with the word between each two
unfoldable pub separated_up_to : {A : Type 0} → Read A → List ℕ → ℕ → Read (List A)
separated_up_to read word zero text = None
separated_up_to read word (suc n) text = read text >>= (λ r. go_on (separated_up_to read word n) r.0 (after word r.1) r.1)

-- one value or more, with the word between each two
unfoldable pub separated : {A : Type 0} → Read A → List ℕ → Read (List A)
separated read word text = separated_up_to read word (suc (length text)) text
