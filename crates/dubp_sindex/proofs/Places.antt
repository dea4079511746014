-- First and last places, and the places before and after one, in lists whose places rise; and what they are where one source is more.
use Rattle.std.proofs.Common.{◌≡◌, ℕ, ◌<◌, ◌≤◌, nat_lt, true, false, cond, List, [], ◌∷◌, ◌++◌, filter, Option, Some, None, refl, sym, ap, ◌∙◌, subst, inl, inr, ◌⊎◌, arith, append-nil}
use Rattle.std.specs.List.{AllByRecursion}
use Rattle.std.specs.Option.{option_or, unwrap_or}
use Rattle.std.proofs.lemmas.Bool.{lt-ltb, le-ltb, eqb-true, eq-eqb, false_from_ne_true}
use Rattle.std.proofs.lemmas.Option.{none-some}
use Rattle.std.proofs.lemmas.List.Elements.{filter-append}
use Rattle.dubp_sindex.specs.Rows.{Entry, Rises}
use Rattle.dubp_sindex.specs.Derived.{first_place, last_of, last_place, before, after}
use Rattle.dubp_sindex.specs.Changes.{is_place}
use Rattle.dubp_sindex.proofs.Elements.{IsIn, in_all, all_more, all_parts, filter_all, filter_none}

abbrev pub AreAbove : ℕ → List Entry → Type 0
AreAbove p xs = AllByRecursion (λ (s : Entry). p < s.1.order) xs

abbrev pub AreBelow : ℕ → List Entry → Type 0
AreBelow p xs = AllByRecursion (λ (s : Entry). s.1.order < p) xs

-- ---- places that rise

-- what it is for places to rise where one source is named
pub record IsBetween (front : List Entry) (s : Entry) (back : List Entry) : Type 0 where
  pub front_rises : Rises front
  pub below : AreBelow s.1.order front
  pub above : AreAbove s.1.order back
  pub back_rises : Rises back

pub between : (front : List Entry) (s : Entry) (back : List Entry) → Rises (front ++ s ∷ back) → IsBetween front s back
between [] s back rises = record { front_rises = tt; below = tt; above = rises.0; back_rises = rises.1 }
between (x ∷ front) s back rises =
    let rest = between front s back rises.1 in
    let parts = all_parts (λ (t : Entry). x.1.order < t.1.order) front (s ∷ back) rises.0 in
    record { front_rises = (parts.0, rest.front_rises); below = (parts.1.0, rest.below); above = rest.above; back_rises = rest.back_rises }

-- ---- two lists, one behind the other

pub first_place-append : (xs ys : List Entry) → first_place (xs ++ ys) ≡ option_or (first_place xs) (first_place ys)
first_place-append [] ys = refl
first_place-append (x ∷ xs) ys = refl

pub last_of-append : (x : Entry) (xs : List Entry) (y : Entry) (ys : List Entry) → last_of x (xs ++ y ∷ ys) ≡ last_of y ys
last_of-append x [] y ys = refl
last_of-append x (z ∷ xs) y ys = last_of-append z xs y ys

pub last_place-append : (xs ys : List Entry) → last_place (xs ++ ys) ≡ option_or (last_place ys) (last_place xs)
last_place-append [] [] = refl
last_place-append [] (y ∷ ys) = refl
last_place-append (x ∷ xs) [] = ap last_place (append-nil (x ∷ xs))
last_place-append (x ∷ xs) (y ∷ ys) = ap Some (last_of-append x xs y ys)

pub after-append : (p : ℕ) (xs ys : List Entry) → after p (xs ++ ys) ≡ option_or (after p xs) (after p ys)
after-append p xs ys = ap first_place (filter-append (λ (s : Entry). nat_lt p s.1.order) xs ys) ∙ first_place-append (filter (λ (s : Entry). nat_lt p s.1.order) xs) (filter (λ (s : Entry). nat_lt p s.1.order) ys)

pub before-append : (p : ℕ) (xs ys : List Entry) → before p (xs ++ ys) ≡ option_or (before p ys) (before p xs)
before-append p xs ys = ap last_place (filter-append (λ (s : Entry). nat_lt s.1.order p) xs ys) ∙ last_place-append (filter (λ (s : Entry). nat_lt s.1.order p) xs) (filter (λ (s : Entry). nat_lt s.1.order p) ys)

-- ---- a list above a place, or below it

pub after_above : (p : ℕ) (xs : List Entry) → AreAbove p xs → after p xs ≡ first_place xs
after_above p xs all = ap first_place (filter_all (λ (s : Entry). nat_lt p s.1.order) xs (all_more (λ (s : Entry). p < s.1.order) (λ (s : Entry). nat_lt p s.1.order ≡ true) (λ s lt. lt-ltb p s.1.order lt) xs all))

pub after_below : (p : ℕ) (xs : List Entry) → AllByRecursion (λ (s : Entry). s.1.order ≤ p) xs → after p xs ≡ None
after_below p xs all = ap first_place (filter_none (λ (s : Entry). nat_lt p s.1.order) xs (all_more (λ (s : Entry). s.1.order ≤ p) (λ (s : Entry). nat_lt p s.1.order ≡ false) (λ s le. le-ltb p s.1.order le) xs all))

pub before_below : (p : ℕ) (xs : List Entry) → AreBelow p xs → before p xs ≡ last_place xs
before_below p xs all = ap last_place (filter_all (λ (s : Entry). nat_lt s.1.order p) xs (all_more (λ (s : Entry). s.1.order < p) (λ (s : Entry). nat_lt s.1.order p ≡ true) (λ s lt. lt-ltb s.1.order p lt) xs all))

pub before_above : (p : ℕ) (xs : List Entry) → AllByRecursion (λ (s : Entry). p ≤ s.1.order) xs → before p xs ≡ None
before_above p xs all = ap last_place (filter_none (λ (s : Entry). nat_lt s.1.order p) xs (all_more (λ (s : Entry). p ≤ s.1.order) (λ (s : Entry). nat_lt s.1.order p ≡ false) (λ s le. le-ltb s.1.order p le) xs all))

-- ---- the first and the last

pub last_in : (xs : List Entry) (p : ℕ) → last_place xs ≡ Some p → (s : Entry) × IsIn s xs × (s.1.order ≡ p)
last_in [] p e = absurd (none-some p e)
last_in (x ∷ []) p e = (x, inl refl, ap (λ o. unwrap_or o p) e)
last_in (x ∷ y ∷ xs) p e = let later = last_in (y ∷ xs) p e in (later.0, inr later.1, later.2)

pub first_in : (xs : List Entry) (p : ℕ) → first_place xs ≡ Some p → (s : Entry) × IsIn s xs × (s.1.order ≡ p)
first_in [] p e = absurd (none-some p e)
first_in (x ∷ xs) p e = (x, inl refl, ap (λ o. unwrap_or o p) e)

pub last_most : (xs : List Entry) → Rises xs → (p : ℕ) → last_place xs ≡ Some p → AllByRecursion (λ (s : Entry). s.1.order ≤ p) xs
last_most [] rises p e = tt
last_most (x ∷ []) rises p e = let is : x.1.order ≡ p = ap (λ o. unwrap_or o p) e in (omega arith, tt)
last_most (x ∷ y ∷ xs) rises p e = let later = last_most (y ∷ xs) rises.1 p e in (omega (arith, rises.0.0, later.0), later)

pub first_least : (xs : List Entry) → Rises xs → (p : ℕ) → first_place xs ≡ Some p → AllByRecursion (λ (s : Entry). p ≤ s.1.order) xs
first_least [] rises p e = tt
first_least (x ∷ xs) rises p e =
    let is : x.1.order ≡ p = ap (λ o. unwrap_or o p) e in
    (omega arith, all_more (λ (s : Entry). x.1.order < s.1.order) (λ (s : Entry). p ≤ s.1.order) (λ s lt. omega (arith, lt, is)) xs rises.0)

-- nothing is behind the last, and what has nothing behind it is the last
pub last_none : (xs : List Entry) → Rises xs → (p : ℕ) → last_place xs ≡ Some p → after p xs ≡ None
last_none xs rises p e = after_below p xs (last_most xs rises p e)

pub first_none : (xs : List Entry) → Rises xs → (p : ℕ) → first_place xs ≡ Some p → before p xs ≡ None
first_none xs rises p e = before_above p xs (first_least xs rises p e)

longer : (x : Entry) (ys : List Entry) (p : ℕ) → last_place ys ≡ Some p → last_place (x ∷ ys) ≡ Some p
longer x [] p e = absurd (none-some p e)
longer x (y ∷ ys) p e = e

alone : (x : Entry) (ys : List Entry) → first_place ys ≡ None → last_place (x ∷ ys) ≡ Some x.1.order
alone x [] e = refl
alone x (y ∷ ys) e = absurd (none-some y.1.order (sym e))

pub none_last : (xs : List Entry) → Rises xs → (t : Entry) → IsIn t xs → after t.1.order xs ≡ None → last_place xs ≡ Some t.1.order
none_last [] rises t there none = absurd there
none_last (x ∷ xs) rises t (inl e) none =
    let self : nat_lt t.1.order x.1.order ≡ false = le-ltb t.1.order x.1.order (omega (arith, ap (λ (w : Entry). w.1.order) e)) in
    let rest : after t.1.order xs ≡ None = rw self at none in
    let above : AreAbove t.1.order xs = subst (λ (w : Entry). AreAbove w.1.order xs) (sym e) rises.0 in
    alone x xs (sym (after_above t.1.order xs above) ∙ rest) ∙ ap (λ (w : Entry). Some w.1.order) (sym e)
none_last (x ∷ xs) rises t (inr later) none =
    let lt = in_all (λ (s : Entry). x.1.order < s.1.order) xs rises.0 t later in
    let self : nat_lt t.1.order x.1.order ≡ false = le-ltb t.1.order x.1.order (omega (arith, lt)) in
    let rest : after t.1.order xs ≡ None = rw self at none in
    longer x xs t.1.order (none_last xs rises.1 t later rest)

pub none_first : (xs : List Entry) → Rises xs → (t : Entry) → IsIn t xs → before t.1.order xs ≡ None → first_place xs ≡ Some t.1.order
none_first [] rises t there none = absurd there
none_first (x ∷ xs) rises t (inl e) none = ap (λ (w : Entry). Some w.1.order) (sym e)
none_first (x ∷ xs) rises t (inr later) none =
    let lt = in_all (λ (s : Entry). x.1.order < s.1.order) xs rises.0 t later in
    let self : nat_lt x.1.order t.1.order ≡ true = lt-ltb x.1.order t.1.order lt in
    let some : last_place (x ∷ filter (λ (s : Entry). nat_lt s.1.order t.1.order) xs) ≡ None = rw self at none in
    absurd (none-some _ (sym some))

-- ---- a place between two lists

pub next_between : (p : ℕ) (front back : List Entry) → AreBelow p front → AreAbove p back → after p (front ++ back) ≡ first_place back
next_between p front back below above =
    after-append p front back
    ∙ ap (λ o. option_or o (after p back)) (after_below p front (all_more (λ (t : Entry). t.1.order < p) (λ (t : Entry). t.1.order ≤ p) (λ t lt. omega (arith, lt)) front below))
    ∙ after_above p back above

pub prev_between : (p : ℕ) (front back : List Entry) → AreBelow p front → AreAbove p back → before p (front ++ back) ≡ last_place front
prev_between p front back below above =
    before-append p front back
    ∙ ap (λ o. option_or o (before p front)) (before_above p back (all_more (λ (t : Entry). p < t.1.order) (λ (t : Entry). p ≤ t.1.order) (λ t lt. omega (arith, lt)) back above))
    ∙ before_below p front below

-- ---- one source among others

pub is_place_of : (q : ℕ) (o : Option ℕ) → is_place q o ≡ true → o ≡ Some q
is_place_of q None e = absurd (cc)
is_place_of q (Some p) e = ap Some (sym (eqb-true q p e))

pub place_is : (q : ℕ) (o : Option ℕ) → o ≡ Some q → is_place q o ≡ true
place_is q o e = rw e (eq-eqb q q refl)

module _ (front : List Entry) (s : Entry) (back : List Entry) (b : IsBetween front s back) where
  -- of the source itself
  pub own_next : after s.1.order (front ++ s ∷ back) ≡ first_place back
  own_next =
      after-append s.1.order front (s ∷ back)
      ∙ ap (λ o. option_or o (after s.1.order (s ∷ back))) (after_below s.1.order front (all_more (λ (t : Entry). t.1.order < s.1.order) (λ (t : Entry). t.1.order ≤ s.1.order) (λ t lt. omega (arith, lt)) front b.below))
      ∙ after-append s.1.order (s ∷ []) back
      ∙ ap (λ o. option_or o (after s.1.order back)) (after_below s.1.order (s ∷ []) (omega arith, tt))
      ∙ after_above s.1.order back b.above

  pub own_prev : before s.1.order (front ++ s ∷ back) ≡ last_place front
  own_prev =
      before-append s.1.order front (s ∷ back)
      ∙ ap (λ o. option_or o (before s.1.order front)) (before_above s.1.order (s ∷ back) (omega arith, all_more (λ (t : Entry). s.1.order < t.1.order) (λ (t : Entry). s.1.order ≤ t.1.order) (λ t lt. omega (arith, lt)) back b.above))
      ∙ before_below s.1.order front b.below

  -- and where it is gone
  pub rest_next : after s.1.order (front ++ back) ≡ first_place back
  rest_next = next_between s.1.order front back b.below b.above

  pub rest_prev : before s.1.order (front ++ back) ≡ last_place front
  rest_prev = prev_between s.1.order front back b.below b.above

  -- of another one
  above_front : (t : Entry) → IsIn t front → AreAbove t.1.order (s ∷ back)
  above_front t there =
      let lt = in_all (λ (u : Entry). u.1.order < s.1.order) front b.below t there in
      (lt, all_more (λ (u : Entry). s.1.order < u.1.order) (λ (u : Entry). t.1.order < u.1.order) (λ u up. omega (arith, lt, up)) back b.above)

  below_back : (t : Entry) → IsIn t back → AreBelow t.1.order front
  below_back t there =
      let lt = in_all (λ (u : Entry). s.1.order < u.1.order) back b.above t there in
      all_more (λ (u : Entry). u.1.order < s.1.order) (λ (u : Entry). u.1.order < t.1.order) (λ u up. omega (arith, lt, up)) front b.below

  not_last : (t : Entry) → IsIn t back → is_place t.1.order (last_place front) ≡ false
  not_last t there = false_from_ne_true (is_place t.1.order (last_place front)) (λ e.
      let l = last_in front t.1.order (is_place_of t.1.order (last_place front) e) in
      omega (arith, in_all (λ (u : Entry). u.1.order < t.1.order) front (below_back t there) l.0 l.1, l.2))

  not_first : (t : Entry) → IsIn t front → is_place t.1.order (first_place back) ≡ false
  not_first t there = false_from_ne_true (is_place t.1.order (first_place back)) (λ e.
      let f = first_in back t.1.order (is_place_of t.1.order (first_place back) e) in
      omega (arith, in_all (λ (u : Entry). t.1.order < u.1.order) back (above_front t there).1 f.0 f.1, f.2))

  -- the one behind
  next_by : (t : Entry) → IsIn t front → (o : Option ℕ) → after t.1.order front ≡ o → option_or o (first_place back) ≡ cond (is_place t.1.order (last_place front)) (first_place back) (option_or o (Some s.1.order))
  next_by t there None e = let last = place_is t.1.order (last_place front) (none_last front b.front_rises t there e) in rw last refl
  next_by t there (Some n) e =
      let not : is_place t.1.order (last_place front) ≡ false = false_from_ne_true (is_place t.1.order (last_place front)) (λ is. (let none = last_none front b.front_rises t.1.order (is_place_of t.1.order (last_place front) is) in absurd (cc))) in
      rw not refl

  pub next_gone : (t : Entry) → IsIn t front ⊎ IsIn t back → after t.1.order (front ++ back) ≡ cond (is_place t.1.order (last_place front)) (first_place back) (after t.1.order (front ++ s ∷ back))
  next_gone t (inl there) =
      let above = above_front t there in
      rw (after-append t.1.order front back, after-append t.1.order front (s ∷ back), after_above t.1.order back above.1, after_above t.1.order (s ∷ back) above) (next_by t there (after t.1.order front) refl)
  next_gone t (inr there) =
      let lt = in_all (λ (u : Entry). s.1.order < u.1.order) back b.above t there in
      let not = not_last t there in
      rw not (after-append t.1.order front back ∙ ap (λ o. option_or (after t.1.order front) o) (sym (after-append t.1.order (s ∷ []) back ∙ ap (λ o. option_or o (after t.1.order back)) (after_below t.1.order (s ∷ []) (omega (arith, lt), tt)))) ∙ sym (after-append t.1.order front (s ∷ back)))

  -- where s is more
  more_next_by : (t : Entry) → IsIn t front → (o : Option ℕ) → after t.1.order front ≡ o → option_or o (Some s.1.order) ≡ cond (is_place t.1.order (last_place front)) (Some s.1.order) (option_or o (first_place back))
  more_next_by t there None e = let last = place_is t.1.order (last_place front) (none_last front b.front_rises t there e) in rw last refl
  more_next_by t there (Some n) e =
      let not : is_place t.1.order (last_place front) ≡ false = false_from_ne_true (is_place t.1.order (last_place front)) (λ is. (let none = last_none front b.front_rises t.1.order (is_place_of t.1.order (last_place front) is) in absurd (cc))) in
      rw not refl

  pub next_more : (t : Entry) → IsIn t front ⊎ IsIn t back → after t.1.order (front ++ s ∷ back) ≡ cond (is_place t.1.order (last_place front)) (Some s.1.order) (after t.1.order (front ++ back))
  next_more t (inl there) =
      let above = above_front t there in
      rw (after-append t.1.order front back, after-append t.1.order front (s ∷ back), after_above t.1.order back above.1, after_above t.1.order (s ∷ back) above) (more_next_by t there (after t.1.order front) refl)
  next_more t (inr there) =
      let not = not_last t there in
      sym (next_gone t (inr there) ∙ ap (λ h. cond h (first_place back) (after t.1.order (front ++ s ∷ back))) not) ∙ sym (ap (λ h. cond h (Some s.1.order) (after t.1.order (front ++ back))) not)

  -- the one before
  prev_by : (t : Entry) → IsIn t back → (o : Option ℕ) → before t.1.order back ≡ o → option_or o (last_place front) ≡ cond (is_place t.1.order (first_place back)) (last_place front) (option_or o (Some s.1.order))
  prev_by t there None e = let first = place_is t.1.order (first_place back) (none_first back b.back_rises t there e) in rw first refl
  prev_by t there (Some n) e =
      let not : is_place t.1.order (first_place back) ≡ false = false_from_ne_true (is_place t.1.order (first_place back)) (λ is. (let none = first_none back b.back_rises t.1.order (is_place_of t.1.order (first_place back) is) in absurd (cc))) in
      rw not refl

  -- what is before t in the list with s
  before_with : (t : Entry) → before t.1.order (front ++ s ∷ back) ≡ option_or (before t.1.order back) (option_or (before t.1.order (s ∷ [])) (before t.1.order front))
  before_with t = before-append t.1.order front (s ∷ back) ∙ ap (λ o. option_or o (before t.1.order front)) (before-append t.1.order (s ∷ []) back) ∙ three (before t.1.order back)
    where
      three : (o : Option ℕ) → option_or (option_or o (before t.1.order (s ∷ []))) (before t.1.order front) ≡ option_or o (option_or (before t.1.order (s ∷ [])) (before t.1.order front))
      three None = refl
      three (Some n) = refl

  pub prev_gone : (t : Entry) → IsIn t front ⊎ IsIn t back → before t.1.order (front ++ back) ≡ cond (is_place t.1.order (first_place back)) (last_place front) (before t.1.order (front ++ s ∷ back))
  prev_gone t (inl there) =
      let lt = in_all (λ (u : Entry). u.1.order < s.1.order) front b.below t there in
      let not = not_first t there in
      let none : before t.1.order (s ∷ []) ≡ None = before_above t.1.order (s ∷ []) (omega (arith, lt), tt) in
      rw not (before-append t.1.order front back ∙ sym (before_with t ∙ ap (λ o. option_or (before t.1.order back) (option_or o (before t.1.order front))) none))
  prev_gone t (inr there) =
      let lt = in_all (λ (u : Entry). s.1.order < u.1.order) back b.above t there in
      let one : before t.1.order (s ∷ []) ≡ Some s.1.order = before_below t.1.order (s ∷ []) (lt, tt) in
      rw (before-append t.1.order front back, before_with t, one, before_below t.1.order front (below_back t there)) (prev_by t there (before t.1.order back) refl)

  more_prev_by : (t : Entry) → IsIn t back → (o : Option ℕ) → before t.1.order back ≡ o → option_or o (Some s.1.order) ≡ cond (is_place t.1.order (first_place back)) (Some s.1.order) (option_or o (last_place front))
  more_prev_by t there None e = let first = place_is t.1.order (first_place back) (none_first back b.back_rises t there e) in rw first refl
  more_prev_by t there (Some n) e =
      let not : is_place t.1.order (first_place back) ≡ false = false_from_ne_true (is_place t.1.order (first_place back)) (λ is. (let none = first_none back b.back_rises t.1.order (is_place_of t.1.order (first_place back) is) in absurd (cc))) in
      rw not refl

  pub prev_more : (t : Entry) → IsIn t front ⊎ IsIn t back → before t.1.order (front ++ s ∷ back) ≡ cond (is_place t.1.order (first_place back)) (Some s.1.order) (before t.1.order (front ++ back))
  prev_more t (inl there) =
      let not = not_first t there in
      sym (prev_gone t (inl there) ∙ ap (λ h. cond h (last_place front) (before t.1.order (front ++ s ∷ back))) not) ∙ sym (ap (λ h. cond h (Some s.1.order) (before t.1.order (front ++ back))) not)
  prev_more t (inr there) =
      let lt = in_all (λ (u : Entry). s.1.order < u.1.order) back b.above t there in
      let one : before t.1.order (s ∷ []) ≡ Some s.1.order = before_below t.1.order (s ∷ []) (lt, tt) in
      rw (before-append t.1.order front back, before_with t, one, before_below t.1.order front (below_back t there)) (more_prev_by t there (before t.1.order back) refl)
