-- What a loop that takes values as long as they are read knows of `values_at`.
use Rattle.std.proofs.Common.{◌≡◌, ◌≢◌, ℕ, zero, suc, ◌+◌, ◌-◌, ◌≤◌, ◌<◌, List, [], ◌∷◌, ◌++◌, length, drop, Option, Some, None, is_some, true, false, Result, Ok, Err, refl, sym, ap, ◌∙◌, arith, append_assoc, append-nil, length-append}
use Rattle.dubp_lines.specs.Lines.{Place}
use Rattle.dubp_lines.specs.Taking.{Gives, first_of, first_at, line_of, named}
use Rattle.dubp_lines.specs.declared.refusal.Refused.{Refused}
use Rattle.std.proofs.lemmas.Bool.{ne_eqb, eq-eqb}
use Rattle.dubp_atoms.specs.Letters.{is_sig}
use Rattle.dubp_atoms.specs.Reading.{text_if}
use Rattle.dubp_docs.specs.Reading.{just_line, named_line, values_at, some_values, list_at, sigs_at}
use Rattle.dubp_docs.specs.Passing.{counted}

abbrev Rows : Type 0
Rows = List (List ℕ)

-- ---- the next line

pub no_line : (p : Place) (n : ℕ) → first_at p ≡ Err n → p.0 ≡ []
no_line p n h = from p.0 h
  where
    from : (ls : Rows) → first_of ls ≡ Err n → ls ≡ []
    from [] h = refl
    from (l ∷ ls) h = absurd cc

zero_is : (n : ℕ) → first_of [] ≡ Err n → 0 ≡ n
zero_is n h = ap left_in h
  where
    left_in : Result (List ℕ) ℕ → ℕ
    left_in (Ok l) = 0
    left_in (Err k) = k

pub no_first : {X : Type 0} (now : X → List ℕ) (r : Result X Refused) (p : Place) → Gives now r (first_at p) → ((x : X) → r ≡ Ok x → ⊥) → p.0 ≡ []
no_first now (Ok x) p h n = absurd (n x refl)
no_first now (Err e) p h n = no_line p e.left h

pub a_line : (p : Place) (l : List ℕ) → first_at p ≡ Ok l → p.0 ≡ l ∷ drop 1 p.0
a_line p l h = from p.0 h
  where
    from : (ls : Rows) → first_of ls ≡ Ok l → ls ≡ l ∷ drop 1 ls
    from [] h = absurd cc
    from (m ∷ ls) h = let e : m ≡ l = cc in ap (λ v. v ∷ ls) e

pub not_read : {A : Type 0} (o : Option A) → is_some o ≡ false → o ≡ None
not_read None h = refl
not_read (Some x) h = absurd cc

pub is_read : {A : Type 0} (o : Option A) → is_some o ≡ true → (x : A) × (o ≡ Some x)
is_read None h = absurd cc
is_read (Some x) h = (x, refl)

module _ {A : Type 0} (read : List ℕ → Option A) where
  -- no value is next
  pub record Stops (n : ℕ) (ls : Rows) : Type 0 where
    pub none : (values_at read n ls).0 ≡ []
    pub same : (values_at read n ls).1 ≡ ls

  pub stops_full : (n : ℕ) (ls : Rows) → n ≡ 0 → Stops n ls
  unfolding values_at
  stops_full n ls z = record { none = rw z refl; same = rw z refl }

  pub stops_empty : (n : ℕ) (ls : Rows) → ls ≡ [] → Stops n ls
  unfolding values_at
  stops_empty zero ls e = record { none = refl; same = refl }
  stops_empty (suc n) ls e = record { none = rw e refl; same = rw e refl }

  pub stops_unread : (n : ℕ) (l : List ℕ) (ls rest : Rows) → ls ≡ l ∷ rest → read l ≡ None → Stops n ls
  unfolding values_at
  stops_unread zero l ls rest e h = record { none = refl; same = refl }
  stops_unread (suc n) l ls rest e h = record { none = rw (e, h) refl; same = rw (e, h) refl }

  -- a value is next
  pub record Goes (n m : ℕ) (ls : Rows) (x : A) (rest : Rows) : Type 0 where
    pub values : (values_at read n ls).0 ≡ x ∷ (values_at read m rest).0
    pub lines : (values_at read n ls).1 ≡ (values_at read m rest).1

  pub goes : (n m : ℕ) (l : List ℕ) (ls rest : Rows) (x : A) → n ≡ suc m → ls ≡ l ∷ rest → read l ≡ Some x → Goes n m ls x rest
  unfolding values_at
  goes n m l ls rest x s e h = record { values = rw (s, e, h) refl; lines = rw (s, e, h) refl }

  -- ---- the loop that counts

  -- so many were passed, and the others are still ahead
  pub record Counted (most n : ℕ) (at : Place) (all : List A × Rows) (t : List ℕ) : Type 0 where
    pub few : n ≤ most
    pub count : n + length (values_at read (most - n) at.0).0 ≡ length all.0
    pub lines : (values_at read (most - n) at.0).1 ≡ all.1
    pub tail : at.1 ≡ t

  -- what the loop gives at its end
  pub record Count (n : ℕ) (at : Place) (all : List A × Rows) (t : List ℕ) : Type 0 where
    pub count : n ≡ length all.0
    pub lines : at.0 ≡ all.1
    pub tail : at.1 ≡ t

  pub count_ends : (most n : ℕ) (at : Place) (all : List A × Rows) (t : List ℕ) → Counted most n at all t → Stops (most - n) at.0 → Count n at all t
  count_ends most n at all t c s = record {
    count = omega (arith, c.count, ap length s.none);
    lines = sym s.same ∙ c.lines;
    tail = c.tail;
  }

  pub count_goes : (most n : ℕ) (at next : Place) (all : List A × Rows) (t l : List ℕ) (x : A) → Counted most n at all t → n < most → at.0 ≡ l ∷ drop 1 at.0 → read l ≡ Some x →
      next.0 ≡ drop 1 at.0 → next.1 ≡ at.1 → Counted most (n + 1) next all t
  count_goes most n at next all t l x c lt e h a b =
      let g = goes (most - n) (most - (n + 1)) l at.0 next.0 x (omega arith) (e ∙ ap (λ v. l ∷ v) (sym a)) h in
      record { few = omega arith; count = omega (arith, c.count, ap length g.values); lines = sym g.lines ∙ c.lines; tail = b ∙ c.tail }

  -- ---- the loop that keeps the values

  pub record Taken (most : ℕ) (front : List A) (at : Place) (all : List A × Rows) (t : List ℕ) : Type 0 where
    pub few : length front ≤ most
    pub values : front ++ (values_at read (most - length front) at.0).0 ≡ all.0
    pub lines : (values_at read (most - length front) at.0).1 ≡ all.1
    pub tail : at.1 ≡ t

  pub record Values (front : List A) (at : Place) (all : List A × Rows) (t : List ℕ) : Type 0 where
    pub values : front ≡ all.0
    pub lines : at.0 ≡ all.1
    pub tail : at.1 ≡ t

  pub take_ends : (most : ℕ) (front : List A) (at : Place) (all : List A × Rows) (t : List ℕ) → Taken most front at all t → Stops (most - length front) at.0 → Values front at all t
  take_ends most front at all t c s = record {
    values = sym (append-nil front) ∙ ap (λ v. front ++ v) (sym s.none) ∙ c.values;
    lines = sym s.same ∙ c.lines;
    tail = c.tail;
  }

  pub take_goes : (most : ℕ) (front more : List A) (at next : Place) (all : List A × Rows) (t l : List ℕ) (x : A) → Taken most front at all t → length front < most → at.0 ≡ l ∷ drop 1 at.0 → read l ≡ Some x →
      more ≡ front ++ x ∷ [] → next.0 ≡ drop 1 at.0 → next.1 ≡ at.1 → Taken most more next all t
  take_goes most front more at next all t l x c lt e h m a b =
      let n : length more ≡ length front + 1 = ap length m ∙ length-append front (x ∷ []) in
      let g = goes (most - length front) (most - length more) l at.0 next.0 x (omega arith) (e ∙ ap (λ v. l ∷ v) (sym a)) h in
      record {
        few = omega arith;
        values = ap (λ v. v ++ (values_at read (most - length more) next.0).0) m ∙ append_assoc front (x ∷ []) (values_at read (most - length more) next.0).0 ∙ ap (λ v. front ++ v) (sym g.values) ∙ c.values;
        lines = sym g.lines ∙ c.lines;
        tail = b ∙ c.tail;
      }

-- ---- a list, and signatures

place_is : (at : Place) (ls : Rows) (t : List ℕ) → at.0 ≡ ls → at.1 ≡ t → (ls, t) ≡ at
place_is at ls t a b =
    let with_lines : Rows → Place = λ v. (v, t) in
    let with_tail : List ℕ → Place = λ v. (at.0, v) in
    ap with_lines (sym a) ∙ ap with_tail (sym b)

no_values : {A : Type 0} (xs : List A) (ls : Rows) (t : List ℕ) → length xs ≡ 0 → some_values xs ls t ≡ Err (length ls)
no_values [] ls t z = refl
no_values (x ∷ xs) ls t z = absurd (omega arith)

values_are : {A : Type 0} (xs : List A) (ls : Rows) (t : List ℕ) → length xs ≢ 0 → some_values xs ls t ≡ Ok (xs, (ls, t))
values_are [] ls t z = absurd (z refl)
values_are (x ∷ xs) ls t z = refl

module _ {A : Type 0} (read : List ℕ → Option A) (heading : List ℕ) (p : Place) where
  pub list_absent : (n : ℕ) → just_line heading p ≡ Err n → list_at read heading p ≡ Err n
  unfolding list_at
  list_absent n h = rw h refl

  module _ (q : Place) (h : just_line heading p ≡ Ok (heading, q)) (at : Place) (lines : at.0 ≡ (values_at read 100 q.0).1) where
    pub list_empty : (n : ℕ) → n ≡ length (values_at read 100 q.0).0 → n ≡ 0 → list_at read heading p ≡ Err (length at.0)
    unfolding list_at
    list_empty n e z = rw h (no_values (values_at read 100 q.0).0 (values_at read 100 q.0).1 q.1 (sym e ∙ z) ∙ ap (λ v. Err (length v)) (sym lines))

    pub list_is : (xs : List A) → xs ≡ (values_at read 100 q.0).0 → length xs ≢ 0 → at.1 ≡ q.1 → list_at read heading p ≡ Ok (xs, at)
    unfolding list_at
    list_is xs e z tail =
        let got : Place → Result (List A × Place) ℕ = λ v. Ok ((values_at read 100 q.0).0, v) in
        let named : List A → Result (List A × Place) ℕ = λ v. Ok (v, at) in
        rw h (values_are (values_at read 100 q.0).0 (values_at read 100 q.0).1 q.1 (λ n. z (ap length e ∙ n)) ∙ ap got (place_is at (values_at read 100 q.0).1 q.1 lines tail) ∙ ap named (sym e))

    pub list_counted : (n : ℕ) → n ≡ length (values_at read 100 q.0).0 → n ≢ 0 → at.1 ≡ q.1 → counted (list_at read heading p) ≡ Ok (n, at)
    list_counted n e z tail =
        let numbered : ℕ → Result (ℕ × Place) ℕ = λ v. Ok (v, at) in
        ap counted (list_is (values_at read 100 q.0).0 refl (λ m. z (e ∙ m)) tail) ∙ ap numbered (sym e)

module _ (n : ℕ) (p at : Place) (lines : at.0 ≡ (values_at (text_if is_sig) n p.0).1) where
  pub sigs_wrong : (k : ℕ) → k ≡ length (values_at (text_if is_sig) n p.0).0 → k ≢ n → sigs_at n p ≡ Err (length at.0)
  unfolding sigs_at
  sigs_wrong k e z = rw (ne_eqb (length (values_at (text_if is_sig) n p.0).0) n (λ m. z (e ∙ m))) (ap (λ v. Err (length v)) (sym lines))

  pub sigs_are : (xs : Rows) → xs ≡ (values_at (text_if is_sig) n p.0).0 → length xs ≡ n → at.1 ≡ p.1 → sigs_at n p ≡ Ok (xs, at)
  unfolding sigs_at
  sigs_are xs e z tail =
      let got : Place → Result (Rows × Place) ℕ = λ v. Ok ((values_at (text_if is_sig) n p.0).0, v) in
      let named : Rows → Result (Rows × Place) ℕ = λ v. Ok (v, at) in
      rw (eq-eqb (length (values_at (text_if is_sig) n p.0).0) n (sym (ap length e) ∙ z)) (ap got (place_is at (values_at (text_if is_sig) n p.0).1 p.1 lines tail) ∙ ap named (sym e))

  pub sigs_counted : (k : ℕ) → k ≡ length (values_at (text_if is_sig) n p.0).0 → k ≡ n → at.1 ≡ p.1 → counted (sigs_at n p) ≡ Ok (k, at)
  sigs_counted k e z tail =
      let numbered : ℕ → Result (ℕ × Place) ℕ = λ v. Ok (v, at) in
      ap counted (sigs_are (values_at (text_if is_sig) n p.0).0 refl (sym e ∙ z) tail) ∙ ap numbered (sym e)

-- ---- a name and a value, where the line is looked at first

module _ {A : Type 0} (read : List ℕ → Option A) (name : List ℕ) (p : Place) where
  pub named_absent : (n : ℕ) → first_at p ≡ Err n → named_line read name p ≡ Err n
  unfolding named_line
  named_absent n h = from p.0 h
    where
      from : (ls : Rows) → first_of ls ≡ Err n → line_of (named name read) ls p.1 ≡ Err n
      from [] h = let failed : ℕ → Result (A × Place) ℕ = λ k. Err k in ap failed (zero_is n h)
      from (l ∷ ls) h = absurd cc

  pub named_refused : (l : List ℕ) → first_at p ≡ Ok l → named name read l ≡ None → named_line read name p ≡ Err (length p.0)
  unfolding named_line
  named_refused l h none = from p.0 (a_line p l h)
    where
      from : (ls : Rows) → ls ≡ l ∷ drop 1 p.0 → line_of (named name read) ls p.1 ≡ Err (length ls)
      from ls e = rw e (rw none refl)

  pub named_taken : (l : List ℕ) (x : A) (q : Place) → first_at p ≡ Ok l → named name read l ≡ Some x → q.0 ≡ drop 1 p.0 → q.1 ≡ p.1 → named_line read name p ≡ Ok (x, q)
  unfolding named_line
  named_taken l x q h some a b =
      let got : Place → Result (A × Place) ℕ = λ v. Ok (x, v) in
      from p.0 (a_line p l h) ∙ ap got (place_is q (drop 1 p.0) p.1 a b)
    where
      from : (ls : Rows) → ls ≡ l ∷ drop 1 p.0 → line_of (named name read) ls p.1 ≡ Ok (x, (drop 1 p.0, p.1))
      from ls e = rw e (rw some refl)
