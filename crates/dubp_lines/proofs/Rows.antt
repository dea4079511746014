-- Readers of several lines or entries keep what a reader keeps.
use Rattle.std.proofs.Common.{◌≡◌, ℕ, zero, suc, Bool, true, false, cond, List, [], ◌∷◌, ◌++◌, length, Option, Some, None, Result, Ok, Err, refl, sym, ap, subst, ◌∙◌, append-nil, arith}
use Rattle.std.specs.Prelude.{map, All}
use Rattle.std.specs.List.{AllByRecursion}
use Rattle.std.proofs.lemmas.List.{nil_from_length, take_at}
use Rattle.std.proofs.lemmas.List.Elements.{All-nil, All-cons, All-head, All-tail}
use Rattle.dubp_atoms.specs.Reading.{Lacks}
use Rattle.dubp_lines.specs.Lines.{Place}
use Rattle.dubp_lines.specs.Taking.{line_at, named, begins_with, next_passes}
use Rattle.dubp_lines.specs.Readers.{Reader, go_on, and_then, gives, optional, rows}
use Rattle.dubp_lines.proofs.Taken.{ok_is, cons_is, text_same}
use Rattle.dubp_lines.proofs.Readers.{Rows, Always, Reading, Refusal, Reads, behind_reads, then_reads, reads_as, spelled_as, gives_reads, IsSpelled, line_reads, err_moved}

-- ---- so many lines

-- an element, and then a list of elements
module _ {A : Type 0} (r : Reader A) (rs : Reader (List A)) (s : A → Rows) (ss : List A → Rows) (G : A → Type 0) (GS : List A → Type 0) (E : Rows → Type 0) where
  abbrev spell_first : List A → Rows
  spell_first [] = []
  spell_first (x ∷ xs) = s x ++ ss xs

  abbrev good_first : List A → Type 0
  good_first [] = ⊥
  good_first (x ∷ xs) = G x × GS xs

  abbrev tail_list : List A → List A
  tail_list [] = []
  tail_list (x ∷ xs) = xs

  abbrev NextIs : A → List A → Type 0
  NextIs a [] = ⊥
  NextIs a (x ∷ xs) = (x ≡ a) × GS xs

  abbrev Whole : A → List A → List A → Type 0
  Whole a xs ys = ys ≡ a ∷ xs

  next_spelled : (a : A) (xs ys : List A) → Whole a xs ys → ss (tail_list ys) ≡ ss xs ++ []
  next_spelled a xs ys e = ap (λ z. ss (tail_list z)) e ∙ sym (append-nil (ss xs))

  next_whole : (a : A) (xs ys : List A) → GS xs → Whole a xs ys → NextIs a ys
  next_whole a xs ys g e = subst (NextIs a) (sym e) (refl, g)

  next_part : (a : A) (ys : List A) → NextIs a ys → (xs : List A) × (GS xs × Whole a xs ys)
  next_part a [] h = absurd h
  next_part a (y ∷ ys) h = (ys, (h.1, cons_is y a ys ys h.0 refl))

  last_reads : (a : A) (xs : List A) → Reads (gives (a ∷ xs)) (λ ys. []) (Whole a xs) E
  last_reads a xs = reads_as (gives (a ∷ xs)) (λ ys. []) (λ ys. Whole a xs ys × Unit {0}) (Whole a xs) E (λ ys h. h.0) (λ ys h. (h, tt)) (gives_reads (a ∷ xs) (Whole a xs) E refl (λ c h. h))

  more_reads : (a : A) → Reads rs ss GS E → Reads (and_then rs (λ xs. gives (a ∷ xs))) (λ ys. ss (tail_list ys)) (NextIs a) E
  more_reads a y = behind_reads rs (λ xs. gives (a ∷ xs)) ss GS E (λ ys. []) E (λ ys. ss (tail_list ys)) (NextIs a) (Whole a) y
      (λ xs g. last_reads a xs) (next_spelled a) (next_whole a) (next_part a) (λ xs ys ls h stop. stop)

  all_spelled : (a : A) (ys : List A) → NextIs a ys → spell_first ys ≡ s a ++ ss (tail_list ys)
  all_spelled a [] h = absurd h
  all_spelled a (y ∷ ys) h = ap (λ z. s z ++ ss ys) h.0

  all_whole : (a : A) (ys : List A) → G a → NextIs a ys → good_first ys
  all_whole a [] g h = absurd h
  all_whole a (y ∷ ys) g h = (subst G (sym h.0) g, h.1)

  all_part : (ys : List A) → good_first ys → (a : A) × (G a × NextIs a ys)
  all_part [] h = absurd h
  all_part (y ∷ ys) h = (y, (h.0, (refl, h.1)))

  pub cons_reads : Reads r s G Always → Reads rs ss GS E → Reads (and_then r (λ x. and_then rs (λ xs. gives (x ∷ xs)))) spell_first good_first E
  cons_reads x y = behind_reads r (λ x. and_then rs (λ xs. gives (x ∷ xs))) s G Always (λ ys. ss (tail_list ys)) E spell_first good_first NextIs x
      (λ a g. more_reads a y) all_spelled all_whole all_part (λ a ys ls h stop. tt)

module _ {A : Type 0} (read : List ℕ → Option A) (spell : A → List ℕ) (Good : A → Type 0) (x : IsSpelled read spell Good) where
  -- so many good values
  abbrev pub IsRows : ℕ → List A → Type 0
  IsRows n xs = (length xs ≡ n) × All Good xs

  abbrev spell_rows : List A → Rows
  spell_rows xs = map spell xs

  none_is : (xs : List A) → IsRows 0 xs → xs ≡ []
  none_is xs h = nil_from_length xs h.0

  more_spelled : (n : ℕ) (xs : List A) → spell_first (line_at read) (rows n read) (λ a. spell a ∷ []) spell_rows Good (IsRows n) Always xs ≡ spell_rows xs
  more_spelled n [] = refl
  more_spelled n (y ∷ ys) = refl

  to_rows : (n : ℕ) (xs : List A) → good_first (line_at read) (rows n read) (λ a. spell a ∷ []) spell_rows Good (IsRows n) Always xs → IsRows (suc n) xs
  to_rows n [] h = absurd h
  to_rows n (y ∷ ys) h = (ap suc h.1.0, All-cons Good y ys h.0 h.1.1)

  from_rows : (n : ℕ) (xs : List A) → IsRows (suc n) xs → good_first (line_at read) (rows n read) (λ a. spell a ∷ []) spell_rows Good (IsRows n) Always xs
  from_rows n [] h = absurd (omega arith)
  from_rows n (y ∷ ys) h = (All-head Good y ys h.1, (omega arith, All-tail Good y ys h.1))

  pub rows_reads : (n : ℕ) → Reads (rows n read) spell_rows (IsRows n) Always
  rows_reads zero =
      let none : List A = [] in
      let K : List A → Type 0 = λ xs. xs ≡ [] in
      spelled_as (rows 0 read) (λ xs. []) spell_rows (IsRows 0) Always (λ xs h. ap spell_rows (sym (none_is xs h)))
      (reads_as (rows 0 read) (λ xs. []) (λ xs. K xs × Unit {0}) (IsRows 0) Always (λ xs h. subst (IsRows 0) (sym h.0) (refl, All-nil Good)) (λ xs h. (none_is xs h, tt)) (gives_reads none K Always refl (λ c h. h)))
  rows_reads (suc n) =
      spelled_as (rows (suc n) read) (spell_first (line_at read) (rows n read) (λ a. spell a ∷ []) spell_rows Good (IsRows n) Always) spell_rows (IsRows (suc n)) Always (λ xs h. more_spelled n xs)
      (reads_as (rows (suc n) read) (spell_first (line_at read) (rows n read) (λ a. spell a ∷ []) spell_rows Good (IsRows n) Always) (good_first (line_at read) (rows n read) (λ a. spell a ∷ []) spell_rows Good (IsRows n) Always) (IsRows (suc n)) Always (to_rows n) (from_rows n)
      (cons_reads (line_at read) (rows n read) (λ a. spell a ∷ []) spell_rows Good (IsRows n) Always (line_reads read spell Good x) (rows_reads n)))

-- ---- a line that may be there

first_passes : (test : List ℕ → Bool) (k : Rows) (l : List ℕ) (ks ks' : Rows) → next_passes test (k ++ l ∷ ks) ≡ next_passes test (k ++ l ∷ ks')
first_passes test [] l ks ks' = refl
first_passes test (m ∷ k) l ks ks' = refl

abbrev pub optional_row : {A : Type 0} → List ℕ → (A → List ℕ) → Option A → Rows
optional_row name spell None = []
optional_row name spell (Some a) = (name ++ spell a) ∷ []

abbrev pub IsOptional : {A : Type 0} → (A → Type 0) → Option A → Type 0
IsOptional Good None = Unit {0}
IsOptional Good (Some a) = Good a

-- no line of this name stands behind
abbrev pub NotNext : List ℕ → Rows → Type 0
NotNext name ls = next_passes (begins_with name) ls ≡ false

module _ {A : Type 0} (name : List ℕ) (read : List ℕ → Option A) (spell : A → List ℕ) (Good : A → Type 0) (x : IsSpelled (named name read) (λ a. name ++ spell a) Good) where
  abbrev row_of : Option A → Rows
  row_of o = optional_row name spell o

  abbrev IsOne : Option A → Type 0
  IsOne o = IsOptional Good o

  apart : (a : A) (ls : Rows) → next_passes (begins_with name) ((name ++ spell a) ∷ ls) ≡ true
  apart a ls = rw (take_at name (spell a) (length name) refl) (text_same name)

  abbrev here : Reader (Option A)
  here p = go_on (line_at (named name read) p) (λ a. gives (Some a))

  read_one : Reads (line_at (named name read)) (λ a. (name ++ spell a) ∷ []) Good Always
  read_one = line_reads (named name read) (λ a. name ++ spell a) Good x

  abbrev chosen : Bool → Reader (Option A)
  chosen b p = cond b (here p) (Ok (None, p))

  is_here : (p : Place) → next_passes (begins_with name) p.0 ≡ true → optional name read p ≡ here p
  is_here p e = ap (λ (b : Bool). chosen b p) e

  is_not : (p : Place) → next_passes (begins_with name) p.0 ≡ false → optional name read p ≡ Ok (None, p)
  is_not p e = ap (λ (b : Bool). chosen b p) e

  here_went : (p : Place) (o : Result (A × Place) ℕ) (y : Option A × Place) → go_on o (λ a. gives (Some a)) ≡ Ok y → (a : A) × (q : Place) × (o ≡ Ok (a, q)) × (y ≡ (Some a, q))
  here_went p (Ok z) y e = (z.0, z.1, refl, sym (ok_is _ _ e))
  here_went p (Err n) y e = absurd cc

  found_by : (p : Place) (b : Bool) (o : Option A) (q : Place) → next_passes (begins_with name) p.0 ≡ b → chosen b p ≡ Ok (o, q) → Reading (optional name read) row_of IsOne p o q
  found_by p true o q e g =
      let w = here_went p (line_at (named name read) p) (o, q) g in
      let f = read_one.found p w.0 w.1 w.2 in
      subst (λ (y : Option A × Place). Reading (optional name read) row_of IsOne p y.0 y.1) (sym w.3)
      (record {
        good = f.good;
        lines = f.lines;
        tail = f.tail;
        local = λ k l ks ks' t at. is_here (row_of (Some w.0) ++ (k ++ l ∷ ks'), t) (apart w.0 (k ++ l ∷ ks')) ∙ ap (λ (r : Result (A × Place) ℕ). go_on r (λ a. gives (Some a))) (f.local k l ks ks' t at);
      })
  found_by p false o q e g =
      let none : Option A × Place = (None, p) in
      subst (λ (y : Option A × Place). Reading (optional name read) row_of IsOne p y.0 y.1) (ok_is none (o, q) g)
      (record {
        good = tt;
        lines = refl;
        tail = refl;
        local = λ k l ks ks' t at. is_not (k ++ l ∷ ks', t) (first_passes (begins_with name) k l ks' ks ∙ ap (next_passes (begins_with name)) (sym at) ∙ e);
      })

  here_stopped : (o : Result (A × Place) ℕ) (n : ℕ) → go_on o (λ a. gives (Some a)) ≡ Err n → o ≡ Err n
  here_stopped (Ok z) n e = absurd cc
  here_stopped (Err m) n e = err_moved m n e

  refused_by : (p : Place) (b : Bool) (n : ℕ) → next_passes (begins_with name) p.0 ≡ b → chosen b p ≡ Err n → Refusal (optional name read) row_of IsOne p.0 n
  refused_by p true n e g =
      let y = read_one.refused p n (here_stopped (line_at (named name read) p) n g) in
      record {
        taken = y.taken;
        rest = y.rest;
        lines = y.lines;
        left = y.left;
        value = Some y.value;
        good = y.good;
        more = y.more;
        begins = y.begins;
        local = λ l ks ks' t at.
            is_here (y.taken ++ l ∷ ks', t) (first_passes (begins_with name) y.taken l ks' ks ∙ ap (next_passes (begins_with name)) (ap (λ z. y.taken ++ z) (sym at) ∙ sym y.lines) ∙ e)
            ∙ ap (λ (r : Result (A × Place) ℕ). go_on r (λ a. gives (Some a))) (y.local l ks ks' t at);
      }
  refused_by p false n e g = absurd cc

  optional_clear : (o : Option A) → IsOne o → AllByRecursion (Lacks 10) (row_of o)
  optional_clear None h = tt
  optional_clear (Some a) h = read_one.clear a h

  optional_again : (o : Option A) (ls : Rows) (t : List ℕ) → IsOne o → NotNext name ls → optional name read (row_of o ++ ls, t) ≡ Ok (o, (ls, t))
  optional_again None ls t h stop = is_not (ls, t) stop
  optional_again (Some a) ls t h stop = is_here (row_of (Some a) ++ ls, t) (apart a ls) ∙ ap (λ (r : Result (A × Place) ℕ). go_on r (λ a. gives (Some a))) (read_one.again a ls t h tt)

  pub optional_reads : Reads (optional name read) row_of IsOne (NotNext name)
  optional_reads = record {
    value = None;
    is = tt;
    clear = optional_clear;
    found = λ p o q e. found_by p (next_passes (begins_with name) p.0) o q refl e;
    refused = λ p n e. refused_by p (next_passes (begins_with name) p.0) n refl e;
    again = optional_again;
  }

-- ---- a part of which something is known

-- Where `P` of the part follows from the fields before, only `Good` of it is asked.
pub known_then : {A B : Type 0} (r : Reader A) (f : A → Reader B) (s : A → Rows) (P Good : A → Type 0) (u : B → Rows) (E : Rows → Type 0) (field : B → A) (K H : B → Type 0)
    → Reads r s (λ a. P a × Good a) Always → ((b : B) → K b → P (field b)) → ((a : A) → P a × Good a → Reads (f a) u (λ b. (K b × (field b ≡ a)) × H b) E)
    → Reads (and_then r f) (λ b. s (field b) ++ u b) (λ b. K b × (Good (field b) × H b)) E
known_then r f s P Good u E field K H first known next =
    reads_as (and_then r f) (λ b. s (field b) ++ u b) (λ b. K b × ((P (field b) × Good (field b)) × H b)) (λ b. K b × (Good (field b) × H b)) E
    (λ b h. (h.0, (h.1.0.1, h.1.1)))
    (λ b h. (h.0, ((known b h.0, h.1.0), h.1.1)))
    (then_reads r f s (λ a. P a × Good a) u E field K H first next)
