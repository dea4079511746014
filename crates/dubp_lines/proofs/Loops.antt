-- Loops that take lines or entries: what is taken so far stands before what is still read.
use Rattle.std.proofs.Common.{◌≡◌, ℕ, zero, suc, ◌<◌, Bool, true, false, cond, List, [], ◌∷◌, ◌++◌, length, Option, Some, None, Result, Ok, Err, refl, sym, ap, subst, ◌∙◌, append_assoc, append-nil, arith}
use Rattle.dubp_lines.specs.Lines.{Place}
use Rattle.dubp_lines.specs.Taking.{line_at, line_of, taken_or}
use Rattle.dubp_lines.specs.Readers.{Reader, go_on, and_then, gives, rows, many, entries}
use Rattle.dubp_lines.proofs.Taken.{ok_is}
use Rattle.dubp_lines.proofs.Readers.{goes, halts}

-- values before those that are read
abbrev pub behind : {A : Type 0} → List A → Result (List A × Place) ℕ → Result (List A × Place) ℕ
behind xs (Ok y) = Ok (xs ++ y.0, y.1)
behind xs (Err n) = Err n

pub behind_none : {A : Type 0} (r : Result (List A × Place) ℕ) → r ≡ behind [] r
behind_none (Ok y) = refl
behind_none (Err n) = refl

pub behind_more : {A : Type 0} (xs : List A) (x : A) (r : Result (List A × Place) ℕ) → behind xs (behind (x ∷ []) r) ≡ behind (xs ++ x ∷ []) r
behind_more {A} xs x (Ok y) =
    let made : List A → Result (List A × Place) ℕ = λ z. Ok (z, y.1) in
    ap made (sym (append_assoc xs (x ∷ []) y.0))
behind_more xs x (Err n) = refl

pub behind_last : {A : Type 0} (xs : List A) (p : Place) (r : Result (List A × Place) ℕ) → r ≡ Ok ([], p) → behind xs r ≡ Ok (xs, p)
behind_last {A} xs p r e =
    let made : List A → Result (List A × Place) ℕ = λ z. Ok (z, p) in
    ap (behind xs) e ∙ ap made (append-nil xs)

pub behind_all : {A : Type 0} (xs ys : List A) (p : Place) (r : Result (List A × Place) ℕ) → ys ≡ xs → r ≡ Ok ([], p) → behind xs r ≡ Ok (ys, p)
behind_all {A} xs ys p r same e =
    let made : List A → Result (List A × Place) ℕ = λ z. Ok (z, p) in
    behind_last xs p r e ∙ ap made (sym same)

pub behind_refused : {A : Type 0} (xs : List A) (n : ℕ) (r : Result (List A × Place) ℕ) → r ≡ Err n → behind xs r ≡ Err n
behind_refused xs n r e = ap (behind xs) e

first_behind : {A : Type 0} (x : A) (r : Result (List A × Place) ℕ) → go_on r (λ xs. gives (x ∷ xs)) ≡ behind (x ∷ []) r
first_behind x (Ok y) = refl
first_behind x (Err n) = refl

-- ---- so many lines

module _ {A : Type 0} (read : List ℕ → Option A) where
  pub rows_step : (n : ℕ) (p q : Place) (x : A) → line_at read p ≡ Ok (x, q) → rows (suc n) read p ≡ behind (x ∷ []) (rows n read q)
  unfolding and_then
  rows_step n p q x e = goes (line_at read) (λ x. and_then (rows n read) (λ xs. gives (x ∷ xs))) p x q e ∙ first_behind x (rows n read q)

  pub rows_refused : (n : ℕ) (p : Place) (m : ℕ) → line_at read p ≡ Err m → rows (suc n) read p ≡ Err m
  rows_refused n p m e = halts (line_at read) (λ x. and_then (rows n read) (λ xs. gives (x ∷ xs))) p m e

  shorter_by : (l : List ℕ) (ls : List (List ℕ)) (t : List ℕ) (o : Option A) (x : A) (q : Place) → taken_or (length (l ∷ ls)) (ls, t) o ≡ Ok (x, q) → length q.0 < length (l ∷ ls)
  shorter_by l ls t (Some y) x q e =
      let made : A × Place = (y, (ls, t)) in
      subst (λ (z : A × Place). length z.1.0 < length (l ∷ ls)) (ok_is made (x, q) e) (omega arith)
  shorter_by l ls t None x q e = absurd cc

  shorter_of : (ls : List (List ℕ)) (t : List ℕ) (x : A) (q : Place) → line_of read ls t ≡ Ok (x, q) → length q.0 < length ls
  shorter_of [] t x q e = absurd cc
  shorter_of (l ∷ ls) t x q e = shorter_by l ls t (read l) x q e

  -- a line that was taken is left no more
  pub line_shorter : (p : Place) (x : A) (q : Place) → line_at read p ≡ Ok (x, q) → length q.0 < length p.0
  line_shorter p x q e = shorter_of p.0 p.1 x q e

-- ---- entries

-- the reader takes a line at least
pub record Shrinks {A : Type 0} (r : Reader A) : Type 0 where
  pub shorter : (p : Place) (x : A) (q : Place) → r p ≡ Ok (x, q) → length q.0 < length p.0

pub line_shrinks : {A : Type 0} (read : List ℕ → Option A) → Shrinks (line_at read)
line_shrinks read = record { shorter = λ p x q e. line_shorter read p x q e }

module _ {A : Type 0} (stops : List (List ℕ) → Bool) (r : Reader A) where
  abbrev next_of : ℕ → Reader (List A)
  next_of n = and_then r (λ x. and_then (many n stops r) (λ xs. gives (x ∷ xs)))

  abbrev chosen : ℕ → Bool → Place → Result (List A × Place) ℕ
  chosen n b p = cond b (Ok ([], p)) (next_of n p)

  next_step : (n : ℕ) (p q : Place) (x : A) → r p ≡ Ok (x, q) → next_of n p ≡ behind (x ∷ []) (many n stops r q)
  unfolding and_then
  next_step n p q x e = goes r (λ x. and_then (many n stops r) (λ xs. gives (x ∷ xs))) p x q e ∙ first_behind x (many n stops r q)

  next_refused : (n : ℕ) (p : Place) (m : ℕ) → r p ≡ Err m → next_of n p ≡ Err m
  next_refused n p m e = halts r (λ x. and_then (many n stops r) (λ xs. gives (x ∷ xs))) p m e

  enough_by : (m n : ℕ) (p : Place) (o : Result (A × Place) ℕ) → Shrinks r → length p.0 < suc m → length p.0 < suc n → r p ≡ o → ((q : Place) → length q.0 < m → length q.0 < n → many m stops r q ≡ many n stops r q) → next_of m p ≡ next_of n p
  enough_by m n p (Ok z) shrinks a b e same =
      let fewer = shrinks.shorter p z.0 z.1 e in
      next_step m p z.1 z.0 e ∙ ap (behind (z.0 ∷ [])) (same z.1 (omega arith) (omega arith)) ∙ sym (next_step n p z.1 z.0 e)
  enough_by m n p (Err k) shrinks a b e same = next_refused m p k e ∙ sym (next_refused n p k e)

  -- every bound above the number of lines is the same
  enough : (m n : ℕ) (p : Place) → Shrinks r → length p.0 < m → length p.0 < n → many m stops r p ≡ many n stops r p
  enough zero n p shrinks a b = absurd (omega arith)
  enough (suc m) zero p shrinks a b = absurd (omega arith)
  enough (suc m) (suc n) p shrinks a b =
      ap (λ (z : Result (List A × Place) ℕ). cond (stops p.0) (Ok ([], p)) z) (enough_by m n p (r p) shrinks a b refl (λ q c d. enough m n q shrinks c d))

  pub entries_stop : (p : Place) → stops p.0 ≡ true → entries stops r p ≡ Ok ([], p)
  unfolding entries
  entries_stop p e = ap (λ b. chosen (length p.0) b p) e

  pub entries_step : (p q : Place) (x : A) → Shrinks r → stops p.0 ≡ false → r p ≡ Ok (x, q) → entries stops r p ≡ behind (x ∷ []) (entries stops r q)
  unfolding entries
  entries_step p q x shrinks e g =
      let fewer = shrinks.shorter p x q g in
      ap (λ b. chosen (length p.0) b p) e ∙ next_step (length p.0) p q x g ∙ ap (behind (x ∷ [])) (enough (length p.0) (suc (length q.0)) q shrinks (omega arith) (omega arith))

  pub entries_refused : (p : Place) (n : ℕ) → stops p.0 ≡ false → r p ≡ Err n → entries stops r p ≡ Err n
  unfolding entries
  entries_refused p n e g = ap (λ b. chosen (length p.0) b p) e ∙ next_refused (length p.0) p n g
