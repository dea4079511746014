-- What is read as a list, and as signatures, is their lines.
use Rattle.std.proofs.Common.{◌≡◌, ℕ, zero, suc, ◌≤◌, Bool, true, false, cond, List, [], ◌∷◌, ◌++◌, length, map, Option, Some, None, Result, Ok, Err, refl, sym, ap, subst, ◌∙◌, arith, append-nil, eqb}
use Rattle.std.specs.Prelude.{All}
use Rattle.std.specs.List.{AllByRecursion}
use Rattle.std.proofs.lemmas.Bool.{eqb-true, eq-eqb}
use Rattle.std.proofs.lemmas.List.{map-id}
use Rattle.std.proofs.lemmas.List.Elements.{All-from_recursion, recursion_from_All}
use Rattle.dubp_atoms.specs.Letters.{is_sig}
use Rattle.dubp_atoms.specs.Reading.{text_if}
use Rattle.dubp_lines.specs.Lines.{Place}
use Rattle.dubp_lines.specs.Takes.{Spans}
use Rattle.dubp_lines.proofs.Taken.{bind_ok, ok_is}
use Rattle.dubp_cond.specs.Transactions.{IsList}
use Rattle.dubp_docs.specs.Reading.{just_line, one_more, values_at, some_values, list_at, sigs_at}
use Rattle.dubp_docs.proofs.OneLine.{Rows, IsRead, text_is, then_lines, just_took_line, just_takes}

-- ---- the values of lines

module _ {A : Type 0} {read : List ℕ → Option A} {spell : A → List ℕ} {Good : A → Type 0} (is : IsRead read spell Good) where
  pub record Found (n : ℕ) (ls : Rows) (xs : List A) (rest : Rows) : Type 0 where
    pub good : AllByRecursion Good xs
    pub few : length xs ≤ n
    pub lines : ls ≡ map spell xs ++ rest

  found_more : (n : ℕ) (l : List ℕ) (ls : Rows) (o : Option A) → read l ≡ o → Found n ls (values_at read n ls).0 (values_at read n ls).1 →
      Found (suc n) (l ∷ ls) (one_more o (values_at read n ls) (l ∷ ls)).0 (one_more o (values_at read n ls) (l ∷ ls)).1
  found_more n l ls None e more = record { good = tt; few = omega arith; lines = refl }
  found_more n l ls (Some x) e more =
      let f = is.found l x e in
      let few : length (values_at read n ls).0 ≤ n = more.few in
      record {
        good = (f.0, more.good);
        few = omega arith;
        lines = ap (λ v. v ∷ ls) f.1 ∙ ap (λ v. spell x ∷ v) more.lines;
      }

  pub values_found : (n : ℕ) (ls : Rows) → Found n ls (values_at read n ls).0 (values_at read n ls).1
  unfolding values_at
  values_found zero ls = record { good = tt; few = omega arith; lines = refl }
  values_found (suc n) [] = record { good = tt; few = omega arith; lines = refl }
  values_found (suc n) (l ∷ ls) = found_more n l ls (read l) refl (values_found n ls)

  -- the lines of values, and then no value
  pub values_again : (n : ℕ) (xs : List A) (l : List ℕ) (rest : Rows) → length xs ≤ n → AllByRecursion Good xs → read l ≡ None → values_at read n (map spell xs ++ l ∷ rest) ≡ (xs, l ∷ rest)
  unfolding values_at
  values_again zero [] l rest few good none = refl
  values_again (suc n) [] l rest few good none = rw none refl
  values_again zero (x ∷ xs) l rest few good none = absurd (omega arith)
  values_again (suc n) (x ∷ xs) l rest few good none = rw (is.again x good.0, values_again n xs l rest (omega arith) good.1 none) refl

  -- as many values as are wanted
  pub values_all : (xs : List A) (rest : Rows) → AllByRecursion Good xs → values_at read (length xs) (map spell xs ++ rest) ≡ (xs, rest)
  unfolding values_at
  values_all [] rest good = refl
  values_all (x ∷ xs) rest good = rw (is.again x good.0, values_all xs rest good.1) refl

  -- ---- a list

  some_found : (heading : List ℕ) (p q r : Place) (vs xs : List A) (ls : Rows) → Spans p (heading ∷ []) q → Found 100 q.0 vs ls → some_values vs ls q.1 ≡ Ok (xs, r) → IsList Good xs × Spans p (heading ∷ map spell xs) r
  some_found heading p q r [] xs ls head f h = absurd cc
  some_found heading p q r (v ∷ vs) xs ls head f h =
      let got : List A × Place = (v ∷ vs, (ls, q.1)) in
      let is : got ≡ (xs, r) = ok_is got (xs, r) h in
      subst (λ (z : List A × Place). IsList Good z.0 × Spans p (heading ∷ map spell z.0) z.1) is (
        record { some = omega arith; few = f.few; each = All-from_recursion Good (v ∷ vs) f.good },
        then_lines {q = q} head (record { lines = f.lines; tail = refl }),
      )

  pub list_found : (heading : List ℕ) (p : Place) (xs : List A) (r : Place) → list_at read heading p ≡ Ok (xs, r) → IsList Good xs × Spans p (heading ∷ map spell xs) r
  unfolding list_at
  list_found heading p xs r h =
      let y : List A × Place = (xs, r) in
      let a = bind_ok (just_line heading p) _ y h in
      some_found heading p a.0.1 r (values_at read 100 a.0.1.0).0 xs (values_at read 100 a.0.1.0).1 (just_took_line heading p a.0.0 a.0.1 a.1) (values_found 100 a.0.1.0) a.2

  some_again : (xs : List A) (rest : Rows) (t : List ℕ) → 1 ≤ length xs → some_values xs rest t ≡ Ok (xs, (rest, t))
  some_again [] rest t some = absurd (omega arith)
  some_again (x ∷ xs) rest t some = refl

  pub list_again : (heading : List ℕ) (xs : List A) (l : List ℕ) (rest : Rows) (t : List ℕ) → IsList Good xs → read l ≡ None → list_at read heading (heading ∷ (map spell xs ++ l ∷ rest), t) ≡ Ok (xs, (l ∷ rest, t))
  unfolding list_at
  list_again heading xs l rest t good none =
      rw (just_takes heading (map spell xs ++ l ∷ rest) t, values_again 100 xs l rest good.few (recursion_from_All Good xs good.each) none) (some_again xs (l ∷ rest) t good.some)

-- ---- signatures

abbrev IsSig : List ℕ → Type 0
IsSig sig = is_sig sig ≡ true

sigs_by : (n : ℕ) (p : Place) (vs : Rows) (ls : Rows) (xs : Rows) (q : Place) (b : Bool) → eqb (length vs) n ≡ b → Found (text_is is_sig) n p.0 vs ls → cond {A = Result (Rows × Place) ℕ} b (Ok (vs, (ls, p.1))) (Err (length ls)) ≡ Ok (xs, q) →
    All IsSig xs × (length xs ≡ n) × Spans p xs q
sigs_by n p vs ls xs q false e f h = absurd cc
sigs_by n p vs ls xs q true e f h =
    let got : Rows × Place = (vs, (ls, p.1)) in
    let is : got ≡ (xs, q) = ok_is got (xs, q) h in
    subst (λ (z : Rows × Place). All IsSig z.0 × (length z.0 ≡ n) × Spans p z.0 z.1) is (
      All-from_recursion IsSig vs f.good,
      eqb-true (length vs) n e,
      record { lines = f.lines ∙ ap (λ v. v ++ ls) (map-id vs); tail = refl },
    )

pub sigs_found : (n : ℕ) (p : Place) (xs : Rows) (q : Place) → sigs_at n p ≡ Ok (xs, q) → All IsSig xs × (length xs ≡ n) × Spans p xs q
unfolding sigs_at
sigs_found n p xs q h =
    let read = text_if is_sig in
    sigs_by n p (values_at read n p.0).0 (values_at read n p.0).1 xs q (eqb (length (values_at read n p.0).0) n) refl (values_found (text_is is_sig) n p.0) h

pub sigs_again : (n : ℕ) (xs : Rows) (t : List ℕ) → All IsSig xs → length xs ≡ n → sigs_at n (xs, t) ≡ Ok (xs, ([], t))
unfolding sigs_at
sigs_again n xs t good e =
    let all : values_at (text_if is_sig) n xs ≡ (xs, []) =
    ap (λ m. values_at (text_if is_sig) m xs) (sym e) ∙ ap (values_at (text_if is_sig) (length xs)) (sym (append-nil xs) ∙ ap (λ v. v ++ []) (sym (map-id xs))) ∙ values_all (text_is is_sig) xs [] (recursion_from_All IsSig xs good) in
    rw (all, eq-eqb (length xs) n e) refl
