-- What the tables have of rows with one source more, and with one less.
use Rattle.std.proofs.Common.{◌≡◌, ℕ, ◌+◌, ◌-◌, ◌<◌, ◌==◌, Bool, true, false, cond, List, [], ◌∷◌, ◌++◌, length, sum_by, Option, Some, None, option_map, refl, sym, ap, ◌∙◌, subst, true≢false, inl, inr, ◌⊎◌, arith, length-append, append-nil, zero-add}
use Rattle.std.specs.Prelude.{find}
use Rattle.std.specs.List.{AllByRecursion}
use Rattle.std.specs.Option.{option_or, option_and_then}
use Rattle.std.proofs.lemmas.Bool.{eqb-true, eq-eqb, ne_eqb, cases_Bool, eqb-false, false_from_ne_true}
use Rattle.std.proofs.lemmas.List.Elements.{filter-append}
use Rattle.std.proofs.lemmas.List.Folds.{find-append}
use Rattle.std.proofs.lemmas.List.Sums.{sum_by-append, sum_by-cons}
use Rattle.dubp_sindex.specs.declared.rows.LinkedRow.{LinkedRow}
use Rattle.dubp_sindex.specs.Rows.{Entry, is_of, of_account, units_of_entry, Rises}
use Rattle.dubp_sindex.specs.Origins.{OriginTexts, name_of}
use Rattle.dubp_sindex.specs.Derived.{first_place, last_of, last_place, before, after, linked, is_at, linked_at, balance_of, balance_at}
use Rattle.dubp_sindex.specs.Changes.{is_place, with_after, with_before, changed, joined, parted}
use Rattle.dubp_sindex.proofs.Elements.{IsIn, all_more, all_append, all-filter, kept_in, in_filter, all_fail, found_in, in_append, in_left, in_right}
use Rattle.dubp_sindex.proofs.Derived.{rises-filter, one_of_order}
use Rattle.dubp_sindex.proofs.Places.{IsBetween, between, last_in, first_in, last_of-append, is_place_of, own_next, own_prev, next_gone, prev_gone, next_more, prev_more, rest_next, rest_prev}

-- a row that is changed at both sides
changed_row : (here here' : Bool) (at_front at_back : Option ℕ) (r : LinkedRow)
    → changed here' (with_before at_front) (changed here (with_after at_back) (Some r)) ≡ Some (record { name = r.name; row = r.row; before = cond here' at_front r.before; after = cond here at_back r.after })
changed_row true true at_front at_back r = refl
changed_row true false at_front at_back r = refl
changed_row false true at_front at_back r = refl
changed_row false false at_front at_back r = refl

changed_none : (here : Bool) (change : LinkedRow → LinkedRow) → changed here change None ≡ None
changed_none true change = refl
changed_none false change = refl

module _ (o : OriginTexts) (front : List Entry) (s : Entry) (back : List Entry) (rises : Rises (front ++ s ∷ back)) where
  abbrev all : List Entry
  all = front ++ s ∷ back

  abbrev rest : List Entry
  rest = front ++ back

  abbrev own_account : ℕ
  own_account = s.1.account

  b : IsBetween front s back
  b = between front s back rises

  -- the neighbours
  abbrev pub prev : Option ℕ
  prev = last_place (of_account own_account front)

  abbrev pub next : Option ℕ
  next = first_place (of_account own_account back)

  -- among the sources of its account
  own : IsBetween (of_account own_account front) s (of_account own_account back)
  own = record {
    front_rises = rises-filter (is_of own_account) front b.front_rises;
    below = all-filter (λ (t : Entry). t.1.order < s.1.order) (is_of own_account) front b.below;
    above = all-filter (λ (t : Entry). s.1.order < t.1.order) (is_of own_account) back b.above;
    back_rises = rises-filter (is_of own_account) back b.back_rises;
  }

  of_rest : (a : ℕ) → of_account a rest ≡ of_account a front ++ of_account a back
  of_rest a = filter-append (is_of a) front back

  of_all : (a : ℕ) → of_account a all ≡ of_account a front ++ cond (a == own_account) (s ∷ of_account a back) (of_account a back)
  of_all a = filter-append (is_of a) front (s ∷ back)

  of_own : of_account own_account all ≡ of_account own_account front ++ s ∷ of_account own_account back
  of_own = of_all own_account ∙ ap (λ h. of_account own_account front ++ cond h (s ∷ of_account own_account back) (of_account own_account back)) (eq-eqb own_account own_account refl)

  of_other : (a : ℕ) → (a == own_account) ≡ false → of_account a all ≡ of_account a rest
  of_other a off = of_all a ∙ ap (λ h. of_account a front ++ cond h (s ∷ of_account a back) (of_account a back)) off ∙ sym (of_rest a)

  in_rest : (t : Entry) → IsIn t front ⊎ IsIn t back → IsIn t all
  in_rest t (inl there) = in_left t front (s ∷ back) there
  in_rest t (inr there) = in_right t front (s ∷ back) (inr there)

  -- the source itself
  not_front : AllByRecursion (λ (t : Entry). is_at s.1.order t ≡ false) front
  not_front = all_more (λ (t : Entry). t.1.order < s.1.order) (λ (t : Entry). is_at s.1.order t ≡ false) (λ t lt. ne_eqb t.1.order s.1.order (λ e. omega (arith, lt, e))) front b.below

  not_back : AllByRecursion (λ (t : Entry). is_at s.1.order t ≡ false) back
  not_back = all_more (λ (t : Entry). s.1.order < t.1.order) (λ (t : Entry). is_at s.1.order t ≡ false) (λ t lt. ne_eqb t.1.order s.1.order (λ e. omega (arith, lt, e))) back b.above

  pub found_own : find (is_at s.1.order) all ≡ Some s
  found_own = find-append (is_at s.1.order) front (s ∷ back) ∙ (λ i. option_or (all_fail (is_at s.1.order) front not_front i) (cond (eq-eqb s.1.order s.1.order refl i) (Some s) (find (is_at s.1.order) back)))

  pub own_row : linked_at o s.1.order all ≡ Some (record { name = name_of o s.0; row = s.1; before = prev; after = next })
  own_row =
      ap (option_map (linked o all)) found_own
      ∙ (λ i. Some (record { name = name_of o s.0; row = s.1; before = prev_is i; after = next_is i }))
    where
      prev_is : before s.1.order (of_account own_account all) ≡ prev
      prev_is = ap (before s.1.order) of_own ∙ own_prev (of_account own_account front) s (of_account own_account back) own

      next_is : after s.1.order (of_account own_account all) ≡ next
      next_is = ap (after s.1.order) of_own ∙ own_next (of_account own_account front) s (of_account own_account back) own

  -- the neighbours that it has where it is not there
  pub free_prev : before s.1.order (of_account own_account rest) ≡ prev
  free_prev = ap (before s.1.order) (of_rest own_account) ∙ rest_prev (of_account own_account front) s (of_account own_account back) own

  pub free_next : after s.1.order (of_account own_account rest) ≡ next
  free_next = ap (after s.1.order) (of_rest own_account) ∙ rest_next (of_account own_account front) s (of_account own_account back) own

  found_gone : find (is_at s.1.order) rest ≡ None
  found_gone = all_fail (is_at s.1.order) rest (all_append (λ (t : Entry). is_at s.1.order t ≡ false) front back not_front not_back)

  found_other : (q : ℕ) → (s.1.order ≡ q → ⊥) → find (is_at q) all ≡ find (is_at q) rest
  found_other q off =
      find-append (is_at q) front (s ∷ back)
      ∙ ap (λ h. option_or (find (is_at q) front) (cond h (Some s) (find (is_at q) back))) (ne_eqb s.1.order q off)
      ∙ sym (find-append (is_at q) front back)

  -- a neighbour is of the same account
  side_of : (t : Entry) → IsIn t front ⊎ IsIn t back → is_of own_account t ≡ true → IsIn t (of_account own_account front) ⊎ IsIn t (of_account own_account back)
  side_of t (inl there) is = inl (kept_in (is_of own_account) front t there is)
  side_of t (inr there) is = inr (kept_in (is_of own_account) back t there is)

  not_prev : (t : Entry) → IsIn t all → is_of own_account t ≡ false → is_place t.1.order prev ≡ false
  not_prev t there off = false_from_ne_true (is_place t.1.order prev) (λ e.
      let l = last_in (of_account own_account front) t.1.order (is_place_of t.1.order prev e) in
      let k = in_filter (is_of own_account) front l.0 l.1 in
      let same : l.0 ≡ t = one_of_order all rises l.0 t (in_rest l.0 (inl k.0)) there l.2 in
      true≢false (sym (subst (λ (w : Entry). is_of own_account w ≡ true) same k.1) ∙ off))

  not_next : (t : Entry) → IsIn t all → is_of own_account t ≡ false → is_place t.1.order next ≡ false
  not_next t there off = false_from_ne_true (is_place t.1.order next) (λ e.
      let l = first_in (of_account own_account back) t.1.order (is_place_of t.1.order next e) in
      let k = in_filter (is_of own_account) back l.0 l.1 in
      let same : l.0 ≡ t = one_of_order all rises l.0 t (in_rest l.0 (inr k.0)) there l.2 in
      true≢false (sym (subst (λ (w : Entry). is_of own_account w ≡ true) same k.1) ∙ off))

  other_way : (t : Entry) → is_of own_account t ≡ false → (t.1.account == own_account) ≡ false
  other_way t off = ne_eqb t.1.account own_account (λ e. eqb-false own_account t.1.account off (sym e))

  -- the neighbours of another source, where this one is gone
  after_gone : (t : Entry) → IsIn t front ⊎ IsIn t back → after t.1.order (of_account t.1.account rest) ≡ cond (is_place t.1.order prev) next (after t.1.order (of_account t.1.account all))
  after_gone t there = elim (cases_Bool (is_of own_account t)) [
    | inl is ↦ (
        let same : t.1.account ≡ own_account = sym (eqb-true own_account t.1.account is) in
        rw same (
        ap (after t.1.order) (of_rest own_account)
        ∙ next_gone (of_account own_account front) s (of_account own_account back) own t (side_of t there is)
        ∙ ap (λ l. cond (is_place t.1.order prev) next (after t.1.order l)) (sym of_own)))
    | inr off ↦ (
        let none = not_prev t (in_rest t there) off in
        rw none (ap (after t.1.order) (sym (of_other t.1.account (other_way t off)))))
  ]

  before_gone : (t : Entry) → IsIn t front ⊎ IsIn t back → before t.1.order (of_account t.1.account rest) ≡ cond (is_place t.1.order next) prev (before t.1.order (of_account t.1.account all))
  before_gone t there = elim (cases_Bool (is_of own_account t)) [
    | inl is ↦ (
        let same : t.1.account ≡ own_account = sym (eqb-true own_account t.1.account is) in
        rw same (
        ap (before t.1.order) (of_rest own_account)
        ∙ prev_gone (of_account own_account front) s (of_account own_account back) own t (side_of t there is)
        ∙ ap (λ l. cond (is_place t.1.order next) prev (before t.1.order l)) (sym of_own)))
    | inr off ↦ (
        let none = not_next t (in_rest t there) off in
        rw none (ap (before t.1.order) (sym (of_other t.1.account (other_way t off)))))
  ]

  -- and where it is more
  after_more : (t : Entry) → IsIn t front ⊎ IsIn t back → after t.1.order (of_account t.1.account all) ≡ cond (is_place t.1.order prev) (Some s.1.order) (after t.1.order (of_account t.1.account rest))
  after_more t there = elim (cases_Bool (is_of own_account t)) [
    | inl is ↦ (
        let same : t.1.account ≡ own_account = sym (eqb-true own_account t.1.account is) in
        rw same (
        ap (after t.1.order) of_own
        ∙ next_more (of_account own_account front) s (of_account own_account back) own t (side_of t there is)
        ∙ ap (λ l. cond (is_place t.1.order prev) (Some s.1.order) (after t.1.order l)) (sym (of_rest own_account))))
    | inr off ↦ (
        let none = not_prev t (in_rest t there) off in
        rw none (ap (after t.1.order) (of_other t.1.account (other_way t off))))
  ]

  before_more : (t : Entry) → IsIn t front ⊎ IsIn t back → before t.1.order (of_account t.1.account all) ≡ cond (is_place t.1.order next) (Some s.1.order) (before t.1.order (of_account t.1.account rest))
  before_more t there = elim (cases_Bool (is_of own_account t)) [
    | inl is ↦ (
        let same : t.1.account ≡ own_account = sym (eqb-true own_account t.1.account is) in
        rw same (
        ap (before t.1.order) of_own
        ∙ prev_more (of_account own_account front) s (of_account own_account back) own t (side_of t there is)
        ∙ ap (λ l. cond (is_place t.1.order next) (Some s.1.order) (before t.1.order l)) (sym (of_rest own_account))))
    | inr off ↦ (
        let none = not_next t (in_rest t there) off in
        rw none (ap (before t.1.order) (of_other t.1.account (other_way t off))))
  ]

  -- the row at another place: what the two neighbours have from then on
  module _ (xs ys : List Entry) (at_front at_back : Option ℕ)
      (after_is : (t : Entry) → IsIn t front ⊎ IsIn t back → after t.1.order (of_account t.1.account ys) ≡ cond (is_place t.1.order prev) at_back (after t.1.order (of_account t.1.account xs)))
      (before_is : (t : Entry) → IsIn t front ⊎ IsIn t back → before t.1.order (of_account t.1.account ys) ≡ cond (is_place t.1.order next) at_front (before t.1.order (of_account t.1.account xs))) where
    row_by : (q : ℕ) (found : Option Entry) → find (is_at q) rest ≡ found
        → option_map (linked o ys) found ≡ changed (is_place q next) (with_before at_front) (changed (is_place q prev) (with_after at_back) (option_map (linked o xs) found))
    row_by q None e = sym (ap (changed (is_place q next) (with_before at_front)) (changed_none (is_place q prev) (with_after at_back)) ∙ changed_none (is_place q next) (with_before at_front))
    row_by q (Some t) e =
        let f = found_in (is_at q) rest t e in
        let is : t.1.order ≡ q = eqb-true t.1.order q f.1 in
        let there = in_append t front back f.0 in
        rw (← is) (
        (λ i. Some (record { name = name_of o t.0; row = t.1; before = before_is t there i; after = after_is t there i }))
        ∙ sym (changed_row (is_place t.1.order prev) (is_place t.1.order next) at_front at_back (linked o xs t)))

  pub gone_row : (q : ℕ) → linked_at o q rest ≡ cond (q == s.1.order) None (changed (is_place q next) (with_before prev) (changed (is_place q prev) (with_after next) (linked_at o q all)))
  gone_row q = elim (cases_Bool (q == s.1.order)) [
    | inl is ↦ (
        let same : q ≡ s.1.order = eqb-true q s.1.order is in
        rw (is, same) (ap (option_map (linked o rest)) found_gone))
    | inr off ↦ (
        let other : s.1.order ≡ q → ⊥ = λ e. eqb-false q s.1.order off (sym e) in
        rw (off, found_other q other) (row_by all rest prev next after_gone before_gone q (find (is_at q) rest) refl))
  ]

  pub more_row : (q : ℕ) → linked_at o q all ≡ cond (q == s.1.order) (Some (record { name = name_of o s.0; row = s.1; before = prev; after = next })) (changed (is_place q next) (with_before (Some s.1.order)) (changed (is_place q prev) (with_after (Some s.1.order)) (linked_at o q rest)))
  more_row q = elim (cases_Bool (q == s.1.order)) [
    | inl is ↦ (
        let same : q ≡ s.1.order = eqb-true q s.1.order is in
        rw (is, same) own_row)
    | inr off ↦ (
        let other : s.1.order ≡ q → ⊥ = λ e. eqb-false q s.1.order off (sym e) in
        rw (off, found_other q other) (row_by rest all (Some s.1.order) (Some s.1.order) after_more before_more q (find (is_at q) rest) refl))
  ]

-- ---- a balance with one source less, and with one more

module _ (a : ℕ) where
  units_gone : (xs : List Entry) (s : Entry) (ys : List Entry) → sum_by units_of_entry (xs ++ ys) ≡ sum_by units_of_entry (xs ++ s ∷ ys) - units_of_entry s
  units_gone xs s ys = omega (arith, sum_by-append units_of_entry xs ys, sum_by-append units_of_entry xs (s ∷ ys), sum_by-cons units_of_entry s ys)

  count_gone : (xs : List Entry) (s : Entry) (ys : List Entry) → length (xs ++ ys) ≡ length (xs ++ s ∷ ys) - 1
  count_gone xs s ys = omega (arith, length-append xs ys, length-append xs (s ∷ ys))

  units_more : (xs : List Entry) (s : Entry) (ys : List Entry) → sum_by units_of_entry (xs ++ s ∷ ys) ≡ sum_by units_of_entry (xs ++ ys) + units_of_entry s
  units_more xs s ys = omega (arith, sum_by-append units_of_entry xs ys, sum_by-append units_of_entry xs (s ∷ ys), sum_by-cons units_of_entry s ys)

  count_more : (xs : List Entry) (s : Entry) (ys : List Entry) → length (xs ++ s ∷ ys) ≡ length (xs ++ ys) + 1
  count_more xs s ys = omega (arith, length-append xs ys, length-append xs (s ∷ ys))

  balance_gone : (xs : List Entry) (s : Entry) (ys : List Entry) → balance_of a (xs ++ ys) ≡ option_and_then (parted (units_of_entry s) (last_place xs) (first_place ys)) (balance_of a (xs ++ s ∷ ys))
  balance_gone [] s [] = refl
  balance_gone [] s (y ∷ ys) = λ i. Some (record { account = a; units = units_gone [] s (y ∷ ys) i; count = count_gone [] s (y ∷ ys) i; first = y.1.order; last = last_of y ys })
  balance_gone (x ∷ xs) s [] = λ i. Some (record { account = a; units = units_gone (x ∷ xs) s [] i; count = count_gone (x ∷ xs) s [] i; first = x.1.order; last = last_of x (append-nil xs i) })
  balance_gone (x ∷ xs) s (y ∷ ys) = λ i. Some (record {
    account = a;
    units = units_gone (x ∷ xs) s (y ∷ ys) i;
    count = count_gone (x ∷ xs) s (y ∷ ys) i;
    first = x.1.order;
    last = (last_of-append x xs y ys ∙ sym (last_of-append x xs s (y ∷ ys))) i;
  })

  balance_more : (xs : List Entry) (s : Entry) (ys : List Entry) → balance_of a (xs ++ s ∷ ys) ≡ Some (joined (balance_of a (xs ++ ys)) a (units_of_entry s) s.1.order (last_place xs) (first_place ys))
  balance_more [] s [] = ap (λ n. Some (record { account = a; units = n; count = 1; first = s.1.order; last = s.1.order })) (zero-add (units_of_entry s))
  balance_more [] s (y ∷ ys) = λ i. Some (record { account = a; units = units_more [] s (y ∷ ys) i; count = count_more [] s (y ∷ ys) i; first = s.1.order; last = last_of y ys })
  balance_more (x ∷ xs) s [] = λ i. Some (record { account = a; units = units_more (x ∷ xs) s [] i; count = count_more (x ∷ xs) s [] i; first = x.1.order; last = last_of-append x xs s [] i })
  balance_more (x ∷ xs) s (y ∷ ys) = λ i. Some (record {
    account = a;
    units = units_more (x ∷ xs) s (y ∷ ys) i;
    count = count_more (x ∷ xs) s (y ∷ ys) i;
    first = x.1.order;
    last = (last_of-append x xs s (y ∷ ys) ∙ sym (last_of-append x xs y ys)) i;
  })

module _ (front : List Entry) (s : Entry) (back : List Entry) where
  pub gone_balance : (a : ℕ)
      → balance_at a (front ++ back) ≡ cond (a == s.1.account) (option_and_then (parted (units_of_entry s) (last_place (of_account s.1.account front)) (first_place (of_account s.1.account back))) (balance_at s.1.account (front ++ s ∷ back))) (balance_at a (front ++ s ∷ back))
  gone_balance a = elim (cases_Bool (a == s.1.account)) [
    | inl is ↦ (
        let same : a ≡ s.1.account = eqb-true a s.1.account is in
        let here = eq-eqb s.1.account s.1.account refl in
        rw (is, same, filter-append (is_of s.1.account) front back, filter-append (is_of s.1.account) front (s ∷ back), here)
        (balance_gone s.1.account (of_account s.1.account front) s (of_account s.1.account back)))
    | inr off ↦ rw (off, filter-append (is_of a) front back, filter-append (is_of a) front (s ∷ back), off) refl
  ]

  pub more_balance : (a : ℕ)
      → balance_at a (front ++ s ∷ back) ≡ cond (a == s.1.account) (Some (joined (balance_at s.1.account (front ++ back)) s.1.account (units_of_entry s) s.1.order (last_place (of_account s.1.account front)) (first_place (of_account s.1.account back)))) (balance_at a (front ++ back))
  more_balance a = elim (cases_Bool (a == s.1.account)) [
    | inl is ↦ (
        let same : a ≡ s.1.account = eqb-true a s.1.account is in
        let here = eq-eqb s.1.account s.1.account refl in
        rw (is, same, filter-append (is_of s.1.account) front back, filter-append (is_of s.1.account) front (s ∷ back), here)
        (balance_more s.1.account (of_account s.1.account front) s (of_account s.1.account back)))
    | inr off ↦ rw (off, filter-append (is_of a) front back, filter-append (is_of a) front (s ∷ back), off) refl
  ]
