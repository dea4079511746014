-- What one source more, and one less, makes of the names, and that rows stay such rows.
use Rattle.std.proofs.Common.{◌≡◌, ℕ, ◌<◌, ◌≤◌, Bool, true, false, cond, not, ◌||◌, ◌&&◌, ◌==◌, List, [], ◌∷◌, ◌++◌, Some, None, option_map, filter, nat_lt, refl, ap, sym, ◌∙◌, subst, true≢false, inl, inr, arith, append-nil, min}
use Rattle.std.specs.Prelude.{find}
use Rattle.std.specs.Option.{option_or}
use Rattle.std.specs.List.{list_any}
use Rattle.std.specs.Ordering.{nat_cmp, ordering_then, is_eq}
use Rattle.std.specs.declared.cmp.Ordering.{Ordering}
use Rattle.std.specs.declared.cmp.Ordering.TheVariants.{Less, Equal, Greater}
use Rattle.std.proofs.lemmas.List.Elements.{filter-append}
use Rattle.std.proofs.lemmas.Bool.{ltb-true, ltb-false, le-ltb}
use Rattle.std.proofs.lemmas.List.Folds.{find-append, list_any-append}
use Rattle.std.proofs.lemmas.Bool.Decides.{Decides-eqb}
use Rattle.dubp_cond.specs.declared.source.SourceId.{SourceId}
use Rattle.dubp_sindex.specs.declared.origins.Name.{Name}
use Rattle.dubp_sindex.specs.declared.origins.Name.TheVariants.{Dividend, Output}
use Rattle.dubp_sindex.specs.contracts.origins.NameOrd.TheImpl as derived
use Rattle.dubp_sindex.specs.Origins.{OriginTexts, is_known, AreKnown, name_of, same_name, has_name}
use Rattle.dubp_sindex.specs.Rows.{Entry, same_source, units, is_named, without, Rises, IsBelow, IsInRange, IsNewRow, IsFreeRow, is_before, with_row, AreRows}
use Rattle.dubp_sindex.specs.Derived.{place_of, place_at}
use Rattle.dubp_sindex.proofs.Elements.{or_left, is_false, not_true, IsIn, in_left, in_right, in_append, in_all, all_from_in, in_any, none_in, in_filter, filter_on, filter_true}
use Rattle.dubp_sindex.proofs.Once.{once-filter, once-append, once-parts, each_once-map}
use Rattle.dubp_sindex.proofs.Named.{same_name_is, one_name}
use Rattle.dubp_sindex.proofs.Sources.{same_source_is, same_source_own, OnceEach, once_each, one_of_name}

-- ---- keys that compare as equal

is_eq_then : (o p : Ordering) → is_eq (ordering_then o p) ≡ (is_eq o && is_eq p)
is_eq_then Less p = refl
is_eq_then Equal p = refl
is_eq_then Greater p = refl

pub tied_numbers : (x y : ℕ) → is_eq (nat_cmp x y) ≡ (x == y)
tied_numbers x y =
    elim (nat_lt x y) as (λ r. nat_lt x y ≡ r → is_eq (cond r Less (cond (x == y) Equal Greater)) ≡ (x == y)) [
      | true ↦ λ below. sym (is_false (x == y) (λ e. omega (arith, ltb-true x y below, (Decides-eqb x y).0 e)))
      | false ↦ λ _. elim (x == y) as (λ r. is_eq (cond r Equal Greater) ≡ r) [ true ↦ refl | false ↦ refl ]
    ] refl

pub tied_names : (a b : Name) → is_eq ((derived.ghosts).cmp a b) ≡ same_name a b
tied_names (Dividend k n) (Dividend k' n') = is_eq_then _ (nat_cmp n n') ∙ (λ i. tied_numbers k k' i && tied_numbers n n' i)
tied_names (Dividend k n) (Output t m) = refl
tied_names (Output t m) (Dividend k n) = refl
tied_names (Output t m) (Output t' m') = is_eq_then _ (nat_cmp m m') ∙ (λ i. tied_numbers t t' i && tied_numbers m m' i)

-- ---- what is found at a key

pub find_none : (p : Entry → Bool) (rows : List Entry) → list_any p rows ≡ false → find p rows ≡ None
find_none p [] none = refl
find_none p (x ∷ rows) none =
    elim (p x) as (λ k. (k || list_any p rows) ≡ false → cond k (Some x) (find p rows) ≡ None) [ true ↦ λ e. absurd (true≢false e) | false ↦ λ e. find_none p rows e ] none

find_kept : (p q : Entry → Bool) (rows : List Entry) → ((x : Entry) → IsIn x rows → q x ≡ false → p x ≡ false) → find p (filter q rows) ≡ find p rows
find_kept p q [] same = refl
find_kept p q (x ∷ rows) same =
    let later = find_kept p q rows (λ y there. same y (inr there)) in
    elim (q x) as (λ k. q x ≡ k → find p (cond k (x ∷ filter q rows) (filter q rows)) ≡ cond (p x) (Some x) (find p rows)) [
      | true ↦ λ _. ap (cond (p x) (Some x)) later
      | false ↦ λ out. let fails : p x ≡ false = same x (inl refl) out in rw fails later
    ] refl

module _ {A : Type 0} where
  -- where the new row passes and no other does
  pub put_found : (f : Entry → A) (p : Entry → Bool) (front back rows : List Entry) → front ++ back ≡ rows → (r : Entry) → (p r ≡ true → list_any p rows ≡ false)
      → option_map f (find p (front ++ r ∷ back)) ≡ cond (p r) (Some (f r)) (option_map f (find p rows))
  put_found f p front back rows are r none =
      ap (option_map f) (find-append p front (r ∷ back))
      ∙ elim (p r) as (λ k. p r ≡ k → option_map f (option_or (find p front) (cond k (Some r) (find p back))) ≡ cond k (Some (f r)) (option_map f (find p rows))) [
        | true ↦ λ is. ap (λ o. option_map f (option_or o (Some r))) (find_none p front (or_left (list_any p front) (list_any p back) (sym (list_any-append p front back) ∙ ap (list_any p) are ∙ none is)))
        | false ↦ λ _. ap (option_map f) (sym (find-append p front back) ∙ ap (find p) are)
      ] refl

  -- a row that passes alone is gone, and no other is
  pub gone_found : (f : Entry → A) (p : Entry → Bool) (rows : List Entry) (r : Entry) → OnceEach rows → IsIn r rows → ((x : Entry) → IsIn x rows → p x ≡ true → p r ≡ true → x ≡ r)
      → option_map f (find p (without r.0 rows)) ≡ cond (p r) None (option_map f (find p rows))
  gone_found f p rows r once there alone =
      elim (p r) as (λ k. p r ≡ k → option_map f (find p (without r.0 rows)) ≡ cond k None (option_map f (find p rows))) [
        | true ↦ λ is. ap (option_map f) (find_none p (without r.0 rows) (none_in p (without r.0 rows) (λ x left.
            let h = in_filter (λ e. not (is_named r.0 e)) rows x left in
            is_false (p x) (λ passes. true≢false (sym (subst (λ (y : Entry). same_source r.0 y.0 ≡ true) (sym (alone x h.0 passes is)) (same_source_own r.0)) ∙ not_true (is_named r.0 x) h.1)))))
        | false ↦ λ fails. ap (option_map f) (find_kept p (λ e. not (is_named r.0 e)) rows (λ x in_rows out.
            ap p (sym (one_of_name rows once r x there in_rows (unnot (is_named r.0 x) out))) ∙ fails))
      ] refl
    where
      unnot : (k : Bool) → not k ≡ false → k ≡ true
      unnot true e = refl
      unnot false e = absurd (true≢false e)

-- ---- places in the order

rises_above : (x : Entry) (rows : List Entry) → IsBelow x.1.order rows → (y : Entry) → IsIn y rows → x.1.order < y.1.order
rises_above x rows below y there = in_all (λ (e : Entry). x.1.order < e.1.order) rows below y there

pub one_of_order : (rows : List Entry) → Rises rows → (x y : Entry) → IsIn x rows → IsIn y rows → x.1.order ≡ y.1.order → x ≡ y
one_of_order [] rises x y there there' same = absurd there
one_of_order (z ∷ zs) rises x y (inl e) (inl f) same = e ∙ sym f
one_of_order (z ∷ zs) rises x y (inl e) (inr there) same = absurd (omega (arith, rises_above z zs rises.0 y there, ap (λ (w : Entry). w.1.order) e, same))
one_of_order (z ∷ zs) rises x y (inr there) (inl f) same = absurd (omega (arith, rises_above z zs rises.0 x there, ap (λ (w : Entry). w.1.order) f, same))
one_of_order (z ∷ zs) rises x y (inr there) (inr there') same = one_of_order zs rises.1 x y there there' same

-- ---- one source more

-- none of the rows has the name of the source, nor its place
pub record IsFree (rows : List Entry) (r : Entry) : Type 0 where
  pub unnamed : list_any (is_named r.0) rows ≡ false
  pub unplaced : (x : Entry) → IsIn x rows → x.1.order ≡ r.1.order → ⊥

pub free_behind : (rows : List Entry) (r : Entry) → IsNewRow rows r → IsFree rows r
free_behind rows r new = record {
  unnamed = new.unnamed;
  unplaced = λ x there same. omega (arith, in_all (λ (e : Entry). e.1.order < r.1.order) rows new.behind x there, same);
}

pub free_between : (rows : List Entry) (r : Entry) → IsFreeRow rows r → IsFree rows r
free_between rows r free = record {
  unnamed = free.unnamed;
  unplaced = λ x there same. true≢false (sym (in_any (λ (y : Entry). y.1.order == r.1.order) rows x there ((Decides-eqb x.1.order r.1.order).1 same)) ∙ free.unplaced);
}

-- the new row stands between the others
pub more_name : (o : OriginTexts) (front back : List Entry) (r : Entry) → IsFree (front ++ back) r → AreKnown o (front ++ back) → is_known o r.0 ≡ true
    → (x : Name) → place_at o x (front ++ r ∷ back) ≡ cond (same_name x (name_of o r.0)) (Some r.1.order) (place_at o x (front ++ back))
more_name o front back r free all known x =
    put_found place_of (has_name o x) front back (front ++ back) refl r
    (λ is. none_in (has_name o x) (front ++ back) (λ e there. is_false (has_name o x e) (λ also. (
    let named : is_known o e.0 ≡ true = in_all (λ (y : Entry). is_known o y.0 ≡ true) (front ++ back) all e there in
    let one : r.0 ≡ e.0 = one_name o r.0 e.0 known named (sym (same_name_is x (name_of o r.0) is) ∙ same_name_is x (name_of o e.0) also) in
    true≢false (sym (in_any (is_named r.0) (front ++ back) e there (subst (λ id. same_source r.0 id ≡ true) one (same_source_own r.0))) ∙ free.unnamed)))))

-- a row between others, where all before it come earlier, and all behind it later
pub made_rows : (front back : List Entry) (r : Entry) → AreRows (front ++ back) → IsFree (front ++ back) r → IsInRange r → ((x : Entry) → IsIn x front → x.1.order < r.1.order) → ((x : Entry) → IsIn x back → r.1.order < x.1.order)
    → AreRows (front ++ r ∷ back)
made_rows front back r order free fits before behind = record {
  once = each_once-map same_source (λ (e : Entry). e.0) (front ++ r ∷ back) ∙ once_between;
  rises = rises_between front back order.rises before behind;
  in_range = all_from_in IsInRange (front ++ r ∷ back) (λ x there. elim (in_append x front (r ∷ back) there) [
    | inl early ↦ in_all IsInRange (front ++ back) order.in_range x (in_left x front back early)
    | inr late ↦ elim late [
      | inl same ↦ subst IsInRange (sym same) fits
      | inr later ↦ in_all IsInRange (front ++ back) order.in_range x (in_right x front back later)
    ]
  ]);
}
  where
    once : OnceEach (front ++ back)
    once = once_each (front ++ back) order

    other : (x : Entry) → IsIn x (front ++ back) → same_source r.0 x.0 ≡ false
    other x there = is_false (same_source r.0 x.0) (λ same. true≢false (sym (in_any (is_named r.0) (front ++ back) x there same) ∙ free.unnamed))

    cons_once : (ys : List Entry) → OnceEach ys → ((y : Entry) → IsIn y ys → same_source r.0 y.0 ≡ false) → OnceEach (r ∷ ys)
    cons_once ys o apart = let none = none_in (λ (y : Entry). same_source r.0 y.0) ys apart in rw none o

    once_between : OnceEach (front ++ r ∷ back)
    once_between =
        let parts = once-parts same_source same_source_is same_source_own (λ (e : Entry). e.0) front back once in
        once-append same_source same_source_is same_source_own (λ (e : Entry). e.0) front (r ∷ back) parts.0
        (cons_once back parts.1 (λ y there. other y (in_right y front back there)))
        (λ x y there late. elim late [
          | inl same ↦ is_false (same_source x.0 y.0) (λ e. (
              let is : x.0 ≡ r.0 = same_source_is x.0 y.0 e ∙ ap (λ (w : Entry). w.0) same in
              true≢false (sym (subst (λ id. same_source r.0 id ≡ true) (sym is) (same_source_own r.0)) ∙ other x (in_left x front back there))))
          | inr later ↦ is_false (same_source x.0 y.0) (λ e. (
              let is : x ≡ y = one_of_name (front ++ back) once x y (in_left x front back there) (in_right y front back later) e in
              omega (arith, before x there, behind y later, ap (λ (w : Entry). w.1.order) is)))
        ])

    rises_between : (xs ys : List Entry) → Rises (xs ++ ys) → ((x : Entry) → IsIn x xs → x.1.order < r.1.order) → ((y : Entry) → IsIn y ys → r.1.order < y.1.order) → Rises (xs ++ r ∷ ys)
    rises_between [] ys rises earlier later = (all_from_in (λ (e : Entry). r.1.order < e.1.order) ys later, rises)
    rises_between (x ∷ xs) ys rises earlier later = (
      all_from_in (λ (e : Entry). x.1.order < e.1.order) (xs ++ r ∷ ys) (λ y there. elim (in_append y xs (r ∷ ys) there) [
        | inl early ↦ in_all (λ (e : Entry). x.1.order < e.1.order) (xs ++ ys) rises.0 y (in_left y xs ys early)
        | inr late ↦ elim late [
          | inl same ↦ subst (λ (w : Entry). x.1.order < w.1.order) (sym same) (earlier x (inl refl))
          | inr after ↦ in_all (λ (e : Entry). x.1.order < e.1.order) (xs ++ ys) rises.0 y (in_right y xs ys after)
        ]
      ]),
      rises_between xs ys rises.1 (λ y there. earlier y (inr there)) later,
    )

filter_false : (xs : List Entry) → filter (λ (x : Entry). false) xs ≡ []
filter_false [] = refl
filter_false (x ∷ xs) = filter_false xs

-- those before the place, and those behind it, are all rows
pub before_first : (rows : List Entry) (e : Entry) → Rises rows → filter (is_before e) rows ++ filter (λ x. not (is_before e x)) rows ≡ rows
before_first [] e rises = refl
before_first (x ∷ rows) e rises =
    elim (is_before e x) as (λ k. is_before e x ≡ k → cond k (x ∷ filter (is_before e) rows) (filter (is_before e) rows) ++ cond (not k) (x ∷ filter (λ y. not (is_before e y)) rows) (filter (λ y. not (is_before e y)) rows) ≡ x ∷ rows) [
      | true ↦ λ _. ap (λ l. x ∷ l) (before_first rows e rises.1)
      | false ↦ λ late. (
          let after : (y : Entry) → IsIn y rows → is_before e y ≡ false = λ y there. le-ltb y.1.order e.1.order (omega (arith, ltb-false x.1.order e.1.order late, in_all (λ (z : Entry). x.1.order < z.1.order) rows rises.0 y there)) in
          let none : filter (is_before e) rows ≡ [] = filter_on (is_before e) (λ y. false) rows after ∙ filter_false rows in
          let all : filter (λ y. not (is_before e y)) rows ≡ rows = filter_on (λ y. not (is_before e y)) (λ y. true) rows (λ y there. ap not (after y there)) ∙ filter_true rows in
          λ i. none i ++ x ∷ all i)
    ] refl

pub placed_rows : (rows : List Entry) (e : Entry) → AreRows rows → IsFreeRow rows e → AreRows (with_row e rows)
placed_rows rows e order free =
    let are = before_first rows e order.rises in
    made_rows (filter (is_before e) rows) (filter (λ x. not (is_before e x)) rows) e (subst AreRows (sym are) order) (subst (λ l. IsFree l e) (sym are) (free_between rows e free)) free.in_range
    (λ x there. ltb-true x.1.order e.1.order (in_filter (is_before e) rows x there).1)
    (λ x there. (
    let h = in_filter (λ y. not (is_before e y)) rows x there in
    let late = ltb-false x.1.order e.1.order (not_true (is_before e x) h.1) in
    elim (nat_lt e.1.order x.1.order) as (λ k. nat_lt e.1.order x.1.order ≡ k → e.1.order < x.1.order) [
      | true ↦ λ lt. ltb-true e.1.order x.1.order lt
      | false ↦ λ ge. absurd ((free_between rows e free).unplaced x h.0 (omega (arith, late, ltb-false e.1.order x.1.order ge)))
    ] refl))

pub behind_rows : (rows : List Entry) (e : Entry) → AreRows rows → IsNewRow rows e → AreRows (rows ++ e ∷ [])
behind_rows rows e order new =
    made_rows rows [] e (subst AreRows (sym (append-nil rows)) order) (subst (λ l. IsFree l e) (sym (append-nil rows)) (free_behind rows e new)) new.in_range
    (λ x there. in_all (λ (y : Entry). y.1.order < e.1.order) rows new.behind x there) (λ x none. absurd none)

-- ---- one source less

pub rises-filter : (p : Entry → Bool) (xs : List Entry) → Rises xs → Rises (filter p xs)
rises-filter p [] rises = tt
rises-filter p (x ∷ xs) rises =
    let later = rises-filter p xs rises.1 in
    elim (p x) as (λ k. Rises (cond k (x ∷ filter p xs) (filter p xs))) [
      | true ↦ (all_from_in (λ (e : Entry). x.1.order < e.1.order) (filter p xs) (λ y there. in_all (λ (e : Entry). x.1.order < e.1.order) xs rises.0 y (in_filter p xs y there).0), later)
      | false ↦ later
    ]

pub gone_name : (o : OriginTexts) (rows : List Entry) (r : Entry) → AreRows rows → AreKnown o rows → IsIn r rows → (x : Name) → place_at o x (without r.0 rows) ≡ cond (same_name x (name_of o r.0)) None (place_at o x rows)
gone_name o rows r order all there x =
    gone_found place_of (has_name o x) rows r (once_each rows order) there
    (λ e in_rows is also. (
    let named = in_all (λ (y : Entry). is_known o y.0 ≡ true) rows all in
    let one : r.0 ≡ e.0 = one_name o r.0 e.0 (named r there) (named e in_rows) (sym (same_name_is x (name_of o r.0) also) ∙ same_name_is x (name_of o e.0) is) in
    one_of_name rows (once_each rows order) e r in_rows there (subst (λ id. same_source e.0 id ≡ true) (sym one) (same_source_own e.0))))

-- a source that is spent leaves those before it and those behind it
pub without_is : (front : List Entry) (r : Entry) (back : List Entry) → AreRows (front ++ r ∷ back) → without r.0 (front ++ r ∷ back) ≡ front ++ back
without_is front r back order =
    filter-append (λ e. not (is_named r.0 e)) front (r ∷ back)
    ∙ (λ i. kept front (λ x there. other x (in_left x front (r ∷ back) there) (λ e. omega (arith, before front order.rises x there, ap (λ (w : Entry). w.1.order) e))) i
    ++ cond (not (same_source_own r.0 i)) (r ∷ without r.0 back) (kept back (λ x there. other x (in_right x front (r ∷ back) (inr there)) (λ e. omega (arith, behind front order.rises x there, ap (λ (w : Entry). w.1.order) e))) i))
  where
    before : (xs : List Entry) → Rises (xs ++ r ∷ back) → (x : Entry) → IsIn x xs → x.1.order < r.1.order
    before [] rises x there = absurd there
    before (y ∷ xs) rises x (inl e) = subst (λ (w : Entry). w.1.order < r.1.order) (sym e) (rises_above y (xs ++ r ∷ back) rises.0 r (in_right r xs (r ∷ back) (inl refl)))
    before (y ∷ xs) rises x (inr there) = before xs rises.1 x there

    behind : (xs : List Entry) → Rises (xs ++ r ∷ back) → (x : Entry) → IsIn x back → r.1.order < x.1.order
    behind [] rises x there = rises_above r back rises.0 x there
    behind (y ∷ xs) rises x there = behind xs rises.1 x there

    other : (x : Entry) → IsIn x (front ++ r ∷ back) → (x ≡ r → ⊥) → is_named r.0 x ≡ false
    other x there apart = is_false (is_named r.0 x) (λ named. apart (sym (one_of_name (front ++ r ∷ back) (once_each (front ++ r ∷ back) order) r x (in_right r front (r ∷ back) (inl refl)) there named)))

    kept : (xs : List Entry) → ((x : Entry) → IsIn x xs → is_named r.0 x ≡ false) → without r.0 xs ≡ xs
    kept xs off = filter_on (λ e. not (is_named r.0 e)) (λ e. true) xs (λ x there. ap not (off x there)) ∙ filter_true xs

-- what is left when a source is spent
pub left_rows : (rows : List Entry) (id : SourceId) → AreRows rows → AreRows (without id rows)
left_rows rows id are = record {
  once = each_once-map same_source (λ (e : Entry). e.0) (without id rows) ∙ once-filter same_source same_source_is same_source_own (λ (e : Entry). e.0) (λ e. not (is_named id e)) rows (once_each rows are);
  rises = rises-filter (λ e. not (is_named id e)) rows are.rises;
  in_range = all_from_in IsInRange (without id rows) (λ x left. in_all IsInRange rows are.in_range x (in_filter (λ e. not (is_named id e)) rows x left).0);
}

-- nothing else is left where the source has no row
pub none_gone : (rows : List Entry) (id : SourceId) → list_any (is_named id) rows ≡ false → without id rows ≡ rows
none_gone rows id none =
    filter_on (λ e. not (is_named id e)) (λ e. true) rows (λ x there. ap not (is_false (is_named id x) (λ is. true≢false (sym (in_any (is_named id) rows x there is) ∙ none))))
    ∙ filter_true rows

pub base_fits : (amount base : ℕ) → base ≤ 15 → units amount (min base 15) ≡ units amount base
base_fits amount base fits = let e : min base 15 ≡ base = omega (arith, fits) in ap (units amount) e
