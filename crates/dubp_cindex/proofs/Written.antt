-- The block in which a key last wrote, where one of its rows is put.
use Rattle.std.proofs.Common.{◌≡◌, ℕ, ◌<◌, ◌≤◌, true, false, cond, ◌==◌, ◌||◌, List, [], ◌∷◌, Option, Some, None, map, filter, refl, ap, sym, ◌∙◌, subst, true≢false, inl, inr, arith, max}
use Rattle.std.specs.Prelude.{IfSome, IsSomeAnd, ◌⊎◌, nat_lt}
use Rattle.std.specs.List.{list_any}
use Rattle.std.specs.Option.{option_map_or}
use Rattle.std.specs.Ordering.{is_eq}
use Rattle.std.specs.FinMap.{entries, get, insert, get-insert}
use Rattle.std.proofs.lemmas.Cmp.{tied_itself}
use Rattle.std.proofs.lemmas.Option.{none-some, same_Some}
use Rattle.std.proofs.Math.Nat.{le-max_left, le-max_right}
use Rattle.dubp_atoms.specs.Same.{Text, same_text}
use Rattle.dubp_cindex.specs.declared.row.CertRow.{CertRow}
use Rattle.dubp_cindex.specs.declared.row.IssuerRow.{IssuerRow}
use Rattle.dubp_cindex.specs.Orders.{pair_cmp}
use Rattle.dubp_cindex.specs.Rows.{Rows, Entry, is_from, greatest, written_in, stock_in, issuer_in}
use Rattle.dubp_cindex.specs.Putting.{IsGreatestBesides}
use Rattle.dubp_cindex.proofs.Texts.{is_equal, pair_total, pair_exact, same_text_is, same_text_own}
use Rattle.dubp_cindex.proofs.Walked.{IsIn}
use Rattle.dubp_cindex.proofs.Entries.{got_in, in_got}

abbrev blocks : Text → List Entry → List ℕ
blocks k es = map (λ (e : Entry). e.1.written) (filter (is_from k) es)

pub any_in : (k : Text) (x : Entry) (es : List Entry) → IsIn x es → is_from k x ≡ true → list_any (is_from k) es ≡ true
any_in k x [] there p = absurd there
any_in k x (e ∷ es) (inl same) p = ap (λ b. b || list_any (is_from k) es) (ap (is_from k) same ∙ p)
any_in k x (e ∷ es) (inr there) p = elim (is_from k e) as (λ b. (b || list_any (is_from k) es) ≡ true) [ true ↦ refl | false ↦ any_in k x es there p ]

greatest_bound : (k : Text) (x : Entry) (es : List Entry) → IsIn x es → is_from k x ≡ true → x.1.written ≤ greatest (blocks k es)
greatest_bound k x [] there p = absurd there
greatest_bound k x (e ∷ es) (inl same) p =
    let here : greatest (blocks k (e ∷ es)) ≡ max e.1.written (greatest (blocks k es)) = ap (λ b. greatest (map (λ (y : Entry). y.1.written) (cond b (e ∷ filter (is_from k) es) (filter (is_from k) es)))) (ap (is_from k) same ∙ p) in
    omega (arith, here, le-max_left e.1.written (greatest (blocks k es)), ap (λ (y : Entry). y.1.written) same)
greatest_bound k x (e ∷ es) (inr there) p =
    let rest = greatest_bound k x es there p in
    elim (is_from k e) as (λ b. x.1.written ≤ greatest (map (λ (y : Entry). y.1.written) (cond b (e ∷ filter (is_from k) es) (filter (is_from k) es)))) [
      | true ↦ omega (arith, rest, le-max_right e.1.written (greatest (blocks k es)))
      | false ↦ rest
    ]

abbrev IsLast : Text → List Entry → Type 0
IsLast k es = (x : Entry) × IsIn x es × (is_from k x ≡ true) × (x.1.written ≡ greatest (blocks k es))

none_zero : (k : Text) (es : List Entry) → list_any (is_from k) es ≡ false → greatest (blocks k es) ≡ 0
none_zero k [] h = refl
none_zero k (e ∷ es) h =
    elim (is_from k e) as (λ b. (b || list_any (is_from k) es) ≡ false → greatest (map (λ (y : Entry). y.1.written) (cond b (e ∷ filter (is_from k) es) (filter (is_from k) es))) ≡ 0) [
      | true ↦ λ n. absurd (true≢false n)
      | false ↦ λ n. none_zero k es n
    ] h

max_first : (a b : ℕ) → b ≤ a → max a b ≡ a
max_first a b h = omega (arith, h)

max_second : (a b : ℕ) → a ≤ b → max a b ≡ b
max_second a b h = omega (arith, h)

greatest_stands : (k : Text) (es : List Entry) → list_any (is_from k) es ≡ true → IsLast k es
greatest_stands k [] h = absurd (true≢false (sym h))
greatest_stands k (e ∷ es) h =
    elim (is_from k e) as (λ b. is_from k e ≡ b → (b || list_any (is_from k) es) ≡ true
    → (x : Entry) × ((e ≡ x) ⊎ IsIn x es) × (is_from k x ≡ true) × (x.1.written ≡ greatest (map (λ (y : Entry). y.1.written) (cond b (e ∷ filter (is_from k) es) (filter (is_from k) es))))) [
      | true ↦ λ own _. elim (list_any (is_from k) es) as (λ c. list_any (is_from k) es ≡ c → (x : Entry) × ((e ≡ x) ⊎ IsIn x es) × (is_from k x ≡ true) × (x.1.written ≡ max e.1.written (greatest (blocks k es)))) [
        | false ↦ λ none. (e, inl refl, own, sym (max_first e.1.written (greatest (blocks k es)) (omega (arith, none_zero k es none))))
        | true ↦ λ some.
            let rest = greatest_stands k es some in
            elim (nat_lt e.1.written (greatest (blocks k es))) as (λ t. nat_lt e.1.written (greatest (blocks k es)) ≡ t → (x : Entry) × ((e ≡ x) ⊎ IsIn x es) × (is_from k x ≡ true) × (x.1.written ≡ max e.1.written (greatest (blocks k es)))) [
              | true ↦ λ t. (rest.0, inr rest.1, rest.2, rest.3 ∙ sym (max_second e.1.written (greatest (blocks k es)) (grind (arith, t))))
              | false ↦ λ t. (e, inl refl, own, sym (max_first e.1.written (greatest (blocks k es)) (grind (arith, t))))
            ] refl
      ] refl
      | false ↦ λ other any. let rest = greatest_stands k es any in (rest.0, inr rest.1, rest.2, rest.3)
    ] refl h

-- the same of the rows
pub written_bound : (rows : Rows) (k y : Text) (r : CertRow) → get rows (k, y) ≡ Some r → r.written ≤ written_in rows k
written_bound rows k y r h = greatest_bound k ((k, y), r) (entries rows) (got_in rows (k, y) r h) (same_text_own k)

pub any_from : (rows : Rows) (k y : Text) (r : CertRow) → get rows (k, y) ≡ Some r → list_any (is_from k) (entries rows) ≡ true
any_from rows k y r h = any_in k ((k, y), r) (entries rows) (got_in rows (k, y) r h) (same_text_own k)

pub written_stands : (rows : Rows) (k : Text) → list_any (is_from k) (entries rows) ≡ true → (y : Text) × (r : CertRow) × (get rows (k, y) ≡ Some r) × (r.written ≡ written_in rows k)
written_stands rows k any =
    let last = greatest_stands k (entries rows) any in
    let x = last.0 in
    (x.0.1, x.1, ap (λ q. get rows (q, x.0.1)) (same_text_is k x.0.0 last.2) ∙ in_got rows x last.1, last.3)

-- the row of the pair, and the others
module _ (rows : Rows) (from to : Text) (row : CertRow) where
  put_own : get (insert rows (from, to) row) (from, to) ≡ Some row
  put_own = get-insert pair_total rows (from, to) row (from, to) ∙ ap (λ r. cond (is_eq r) (Some row) (get rows (from, to))) (tied_itself pair_total (from, to))

  put_other : (y : Text) → (y ≡ to → ⊥) → get (insert rows (from, to) row) (from, y) ≡ get rows (from, y)
  put_other y other =
      get-insert pair_total rows (from, to) row (from, y)
      ∙ elim (is_eq (pair_cmp (from, y) (from, to))) as (λ b. is_eq (pair_cmp (from, y) (from, to)) ≡ b → cond b (Some row) (get rows (from, y)) ≡ get rows (from, y)) [
        | true ↦ λ t. absurd (other (ap (λ (p : Text × Text). p.1) (pair_exact (from, y) (from, to) (is_equal _ t))))
        | false ↦ λ t. refl
      ] refl

  pub any_put : list_any (is_from from) (entries (insert rows (from, to) row)) ≡ true
  any_put = any_from (insert rows (from, to) row) from to row put_own

  some_is : (o : Option CertRow) (r : CertRow) (P : CertRow → Type 0) → o ≡ Some r → IfSome o P → P r
  some_is None r P e h = absurd (none-some r e)
  some_is (Some s) r P e h = subst P (same_Some s r e) h

  some_and : (o : Option CertRow) (P : CertRow → Type 0) → IsSomeAnd o P → (r : CertRow) × (o ≡ Some r) × P r
  some_and None P h = absurd h
  some_and (Some s) P h = (s, refl, h)

  at_most : (n : ℕ) → IsGreatestBesides (λ y. get rows (from, y)) to row.written n → (y : Text) (r : CertRow) → get (insert rows (from, to) row) (from, y) ≡ Some r → r.written ≤ n
  at_most n is y r h =
      elim (same_text y to) as (λ b. same_text y to ≡ b → r.written ≤ n) [
        | true ↦ λ t.
            let own : row ≡ r = same_Some row r (sym put_own ∙ ap (λ q. get (insert rows (from, to) row) (from, q)) (sym (same_text_is y to t)) ∙ h) in
            subst (λ (q : CertRow). q.written ≤ n) own is.above_least
        | false ↦ λ t.
            let other : y ≡ to → ⊥ = λ e. true≢false (sym (same_text_own y) ∙ ap (same_text y) e ∙ t) in
            some_is (get rows (from, y)) r (λ (q : CertRow). q.written ≤ n) (sym (put_other y other) ∙ h) (is.bound y other)
      ] refl

  pub written_put : (n : ℕ) → IsGreatestBesides (λ y. get rows (from, y)) to row.written n → n ≡ written_in (insert rows (from, to) row) from
  written_put n is =
      let after = insert rows (from, to) row in
      let last = written_stands after from (any_from after from to row put_own) in
      let upper : written_in after from ≤ n = omega (arith, at_most n is last.0 last.1 last.2, last.3) in
      let lower : n ≤ written_in after from = elim is.stands [
        | inl e ↦ omega (arith, e, written_bound after from to row put_own)
        | inr s ↦
            let there = some_and (get rows (from, s.0)) (λ (q : CertRow). q.written ≡ n) s.2 in
            omega (arith, written_bound after from s.0 there.0 (put_other s.0 s.1 ∙ there.1), there.2)
      ] in
      omega (arith, upper, lower)

  -- what the row of the issuer tells
  none_from : issuer_in rows from ≡ None → (y : Text) (r : CertRow) → get rows (from, y) ≡ Some r → ⊥
  none_from none y r h = none-some (record { stock = stock_in rows from; written = written_in rows from }) (sym none ∙ ap (λ b. cond b (Some (record { stock = stock_in rows from; written = written_in rows from })) None) (any_from rows from y r h))

  told_issuer : (i : IssuerRow) → issuer_in rows from ≡ Some i → (list_any (is_from from) (entries rows) ≡ true) × (i.written ≡ written_in rows from)
  told_issuer i is =
      elim (list_any (is_from from) (entries rows)) as (λ b. cond b (Some (record { stock = stock_in rows from; written = written_in rows from })) None ≡ Some i → (b ≡ true) × (i.written ≡ written_in rows from)) [
        | true ↦ λ h. (refl, ap (λ (r : IssuerRow). r.written) (sym (same_Some _ _ h)))
        | false ↦ λ h. absurd (none-some i h)
      ] is

  if_none : (o : Option CertRow) (P : CertRow → Type 0) → ((r : CertRow) → o ≡ Some r → P r) → IfSome o P
  if_none None P f = tt
  if_none (Some r) P f = f r refl

  -- the first row, and one whose block is not below the others'
  pub written_first : issuer_in rows from ≡ None → row.written ≡ written_in (insert rows (from, to) row) from
  written_first none = written_put row.written (record {
    above_least = omega arith;
    bound = λ y other. if_none (get rows (from, y)) (λ (r : CertRow). r.written ≤ row.written) (λ r h. absurd (none_from none y r h));
    stands = inl refl;
  })

  pub written_later : (i : IssuerRow) → issuer_in rows from ≡ Some i → i.written ≤ row.written → row.written ≡ written_in (insert rows (from, to) row) from
  written_later i is le = written_put row.written (record {
    above_least = omega arith;
    bound = λ y other. if_none (get rows (from, y)) (λ (r : CertRow). r.written ≤ row.written) (λ r h. omega (arith, written_bound rows from y r h, (told_issuer i is).1, le));
    stands = inl refl;
  })

  -- a row of another block is replaced by an earlier one
  pub written_same : (i : IssuerRow) → issuer_in rows from ≡ Some i → row.written < i.written → option_map_or (λ (r : CertRow). r.written == i.written) (get rows (from, to)) false ≡ false → i.written ≡ written_in (insert rows (from, to) row) from
  written_same i is lt apart =
      let told = told_issuer i is in
      let last = written_stands rows from told.0 in
      written_put i.written (record {
        above_least = omega (arith, lt);
        bound = λ y other. if_none (get rows (from, y)) (λ (r : CertRow). r.written ≤ i.written) (λ r h. omega (arith, written_bound rows from y r h, told.1));
        stands = inr (last.0, λ e. replaced last.1 (ap (λ q. get rows (from, q)) (sym e) ∙ last.2) (last.3 ∙ sym told.1), subst (λ o. IsSomeAnd o (λ (r : CertRow). r.written ≡ i.written)) (sym last.2) (last.3 ∙ sym told.1));
      })
    where
      replaced : (r : CertRow) → get rows (from, to) ≡ Some r → r.written ≡ i.written → ⊥
      replaced r h e = true≢false (sym (ap (λ o. option_map_or (λ (q : CertRow). q.written == i.written) o false) h ∙ own (r.written) (i.written) e) ∙ apart)
        where
          own : (a b : ℕ) → a ≡ b → (a == b) ≡ true
          own a b f = grind (arith, f)
