-- Walks along the list of an account: forth from its first source, and back from its last to a free place.
use Rattle.std.proofs.Common.{◌≡◌, ℕ, suc, ◌+◌, ◌<◌, ◌≤◌, true, false, List, [], ◌∷◌, ◌++◌, length, Option, Some, None, option_map, refl, sym, ap, ◌∙◌, subst, true≢false, arith, append_assoc, append-nil, length-append}
use Rattle.std.specs.Prelude.{slice_get, unwrap_or, ◌^◌}
use Rattle.std.specs.List.{list_any}
use Rattle.std.specs.Option.{IfSome}
use Rattle.std.proofs.lemmas.Bool.{eqb-true, eq-eqb}
use Rattle.std.proofs.lemmas.Option.{none-some}
use Rattle.dubp_cond.specs.declared.source.SourceId.{SourceId}
use Rattle.dubp_sindex.specs.declared.rows.LinkedRow.{LinkedRow}
use Rattle.dubp_sindex.specs.declared.rows.Balance.{Balance}
use Rattle.dubp_sindex.specs.Rows.{Entry, is_of, of_account, Rises, IsInRange, AreRows}
use Rattle.dubp_sindex.specs.Origins.{OriginTexts, source_in, is_known, AreKnown}
use Rattle.dubp_sindex.specs.Links.{place_in, place_in_fits}
use Rattle.dubp_sindex.specs.Derived.{first_place, last_place, before, after, linked, is_at, linked_at, balance_of, balance_at}
use Rattle.dubp_sindex.proofs.Elements.{IsIn, in_all, in_any, all_more, in_filter, in_middle}
use Rattle.dubp_sindex.proofs.Derived.{rises-filter}
use Rattle.dubp_sindex.proofs.Named.{source_is}
use Rattle.dubp_sindex.proofs.Places.{AreAbove, AreBelow, between, own_next, own_prev, next_between, prev_between, last_in, last_most}
use Rattle.dubp_sindex.proofs.Moves.{row_of_place}

-- ---- a source of an account, between the others of it

module _ (o : OriginTexts) (rows : List Entry) (order : AreRows rows) (a : ℕ) (front : List Entry) (x : Entry) (back : List Entry) (is : of_account a rows ≡ front ++ x ∷ back) where
  rises : Rises (front ++ x ∷ back)
  rises = subst Rises is (rises-filter (is_of a) rows order.rises)

  own : IsIn x rows × (is_of a x ≡ true)
  own = in_filter (is_of a) rows x (subst (IsIn x) (sym is) (in_middle front back x))

  pub row_here : linked_at o x.1.order rows ≡ Some (linked o rows x)
  row_here = row_of_place o rows order.rises x own.0

  all_is : of_account x.1.account rows ≡ front ++ x ∷ back
  all_is = ap (λ c. of_account c rows) (sym (eqb-true a x.1.account own.1)) ∙ is

  pub after_here : after x.1.order (of_account x.1.account rows) ≡ first_place back
  after_here = ap (after x.1.order) all_is ∙ own_next front x back (between front x back rises)

  pub before_here : before x.1.order (of_account x.1.account rows) ≡ last_place front
  before_here = ap (before x.1.order) all_is ∙ own_prev front x back (between front x back rises)

  pub front_below : AreBelow x.1.order front
  front_below = (between front x back rises).below

-- ---- forth

-- the sources of the account are those that were found, and then those from here on
pub record IsWalked (rows : List Entry) (a turns : ℕ) (here : Option ℕ) (found : List Entry) : Type 0 where
  pub rest : List Entry
  pub is : of_account a rows ≡ found ++ rest
  pub begins : here ≡ first_place rest
  pub counted : length found ≡ turns

first_known : (a : ℕ) (xs : List Entry) (b : Balance) → balance_of a xs ≡ Some b → Some b.first ≡ first_place xs
first_known a [] b is = absurd (none-some b is)
first_known a (x ∷ xs) b is = ap (option_map (λ (y : Balance). y.first)) (sym is)

count_known : (a : ℕ) (xs : List Entry) (b : Balance) → balance_of a xs ≡ Some b → b.count ≡ length xs
count_known a [] b is = absurd (none-some b is)
count_known a (x ∷ xs) b is = ap (λ o. unwrap_or (option_map (λ (y : Balance). y.count) o) 0) (sym is)

pub none_known : (a : ℕ) (xs : List Entry) → balance_of a xs ≡ None → xs ≡ []
none_known a [] is = refl
none_known a (x ∷ xs) is = absurd (none-some _ (sym is))

pub walk_begins : (rows : List Entry) (a : ℕ) (b : Balance) → balance_at a rows ≡ Some b → IsWalked rows a 0 (Some b.first) []
walk_begins rows a b is = record { rest = of_account a rows; is = refl; begins = first_known a (of_account a rows) b is; counted = refl }

pub walk_ends : (rows : List Entry) (a turns : ℕ) (found : List Entry) → IsWalked rows a turns None found → found ≡ of_account a rows
walk_ends rows a turns found w = by w.rest w.is w.begins
  where
    by : (rest : List Entry) → of_account a rows ≡ found ++ rest → None ≡ first_place rest → found ≡ of_account a rows
    by [] is e = sym (is ∙ append-nil found)
    by (x ∷ rest) is e = absurd (none-some x.1.order e)

pub walk_counted : (rows : List Entry) (a turns : ℕ) (here : Option ℕ) (found : List Entry) (b : Balance) → balance_at a rows ≡ Some b → IsWalked rows a turns here found → b.count ≤ turns → found ≡ of_account a rows
walk_counted rows a turns here found b balance w all = by w.rest w.is
  where
    by : (rest : List Entry) → of_account a rows ≡ found ++ rest → found ≡ of_account a rows
    by [] is = sym (is ∙ append-nil found)
    by (x ∷ rest) is = absurd (omega (arith, all, count_known a (of_account a rows) b balance, ap length is, length-append found (x ∷ rest), w.counted))

module _ (o : OriginTexts) (rows : List Entry) (order : AreRows rows) (a turns place : ℕ) (found : List Entry) (w : IsWalked rows a turns (Some place) found) where
  -- where the walk is, there is a source of the account
  pub record IsHere : Type 0 where
    pub x : Entry
    pub rest : List Entry
    pub is : of_account a rows ≡ found ++ x ∷ rest
    pub place_is : x.1.order ≡ place

  pub here : IsHere
  here = by w.rest w.is w.begins
    where
      by : (rest : List Entry) → of_account a rows ≡ found ++ rest → Some place ≡ first_place rest → IsHere
      by [] is e = absurd (none-some place (sym e))
      by (x ∷ rest) is e = record { x = x; rest = rest; is = is; place_is = ap (λ o. unwrap_or o place) (sym e) }

  row_is : linked_at o place rows ≡ Some (linked o rows here.x)
  row_is = subst (λ p. linked_at o p rows ≡ Some (linked o rows here.x)) here.place_is (row_here o rows order a found here.x here.rest here.is)

  pub walk_is_here : linked_at o place rows ≡ None → ⊥
  walk_is_here none = none-some _ (sym none ∙ row_is)

  -- a row without a source is none of them
  pub walk_names : AreKnown o rows → (l : LinkedRow) → linked_at o place rows ≡ Some l → source_in o l.name ≡ Some here.x.0
  walk_names all l at =
      let same : l ≡ linked o rows here.x = ap (λ found. unwrap_or found l) (sym at ∙ row_is) in
      let known : is_known o here.x.0 ≡ true = in_all (λ (e : Entry). is_known o e.0 ≡ true) rows all here.x (own o rows order a found here.x here.rest here.is).0 in
      ap (λ (y : LinkedRow). source_in o y.name) same ∙ source_is o here.x.0 known

  pub walk_source : AreKnown o rows → (l : LinkedRow) → linked_at o place rows ≡ Some l → option_map (λ (id : SourceId). (id, l.row)) (source_in o l.name) ≡ Some here.x
  walk_source all l at =
      let same : l ≡ linked o rows here.x = ap (λ found. unwrap_or found l) (sym at ∙ row_is) in
      ap (option_map (λ (id : SourceId). (id, l.row))) (walk_names all l at) ∙ ap (λ (y : LinkedRow). Some (here.x.0, y.row)) same

  pub walk_goes : AreKnown o rows → (l : LinkedRow) → linked_at o place rows ≡ Some l → (e : Entry) → Some e ≡ option_map (λ (id : SourceId). (id, l.row)) (source_in o l.name) → (now : List Entry) → now ≡ found ++ e ∷ [] → IsWalked rows a (turns + 1) l.after now
  walk_goes all l at e named now put =
      let same : l ≡ linked o rows here.x = ap (λ found. unwrap_or found l) (sym at ∙ row_is) in
      let whole : here.x ≡ e = ap (λ found. unwrap_or found e) (sym (named ∙ walk_source all l at)) in
      record {
        rest = here.rest;
        is = here.is ∙ sym (append_assoc found (here.x ∷ []) here.rest) ∙ ap (λ (y : Entry). (found ++ y ∷ []) ++ here.rest) whole ∙ ap (λ l. l ++ here.rest) (sym put);
        begins = ap (λ (y : LinkedRow). y.after) same ∙ after_here o rows order a found here.x here.rest here.is;
        counted = ap length put ∙ length-append found (e ∷ []) ∙ ap (λ n. n + 1) w.counted;
      }

-- the first source of an account
pub first_is : (o : OriginTexts) (rows : List Entry) → AreRows rows → AreKnown o rows → (a : ℕ) (b : Balance) (l : LinkedRow) → balance_at a rows ≡ Some b → linked_at o b.first rows ≡ Some l → option_map (λ (id : SourceId). (id, l.row)) (source_in o l.name) ≡ slice_get (of_account a rows) 0
first_is o rows order all a b l balance at =
    let begun = walk_begins rows a b balance in
    let e = here o rows order a 0 b.first [] begun in
    let w = walk_goes o rows order a 0 b.first [] begun all l at e.x (sym (walk_source o rows order a 0 b.first [] begun all l at)) (e.x ∷ []) refl in
    walk_source o rows order a 0 b.first [] begun all l at ∙ sym (ap (λ xs. slice_get xs 0) w.is)

pub first_there : (o : OriginTexts) (rows : List Entry) → AreRows rows → (a : ℕ) (b : Balance) → balance_at a rows ≡ Some b → linked_at o b.first rows ≡ None → ⊥
first_there o rows order a b balance = walk_is_here o rows order a 0 b.first [] (walk_begins rows a b balance)

-- ---- back

-- the sources of the account are those up to here, and those behind that are above the place
pub record IsBack (rows : List Entry) (a place : ℕ) (prev next : Option ℕ) : Type 0 where
  pub front : List Entry
  pub back : List Entry
  pub is : of_account a rows ≡ front ++ back
  pub ends : prev ≡ last_place front
  pub begins : next ≡ first_place back
  pub above : AreAbove place back

pub back_begins : (rows : List Entry) (a place : ℕ) (prev next : Option ℕ) → prev ≡ last_place (of_account a rows) → next ≡ None → IsBack rows a place prev next
back_begins rows a place prev next ends none = record { front = of_account a rows; back = []; is = sym (append-nil (of_account a rows)); ends = ends; begins = none; above = tt }

-- the last of a list
record IsLast (xs : List Entry) (p : ℕ) : Type 0 where
  pub front : List Entry
  pub x : Entry
  pub is : xs ≡ front ++ x ∷ []
  pub place_is : x.1.order ≡ p

last_split : (xs : List Entry) (p : ℕ) → last_place xs ≡ Some p → IsLast xs p
last_split [] p e = absurd (none-some p e)
last_split (x ∷ []) p e = record { front = []; x = x; is = refl; place_is = ap (λ o. unwrap_or o p) e }
last_split (x ∷ y ∷ xs) p e = let l = last_split (y ∷ xs) p e in record { front = x ∷ l.front; x = l.x; is = ap (λ l. x ∷ l) l.is; place_is = l.place_is }

module _ (rows : List Entry) (order : AreRows rows) (a place : ℕ) where
  -- no source stands before the place
  pub back_none : (next : Option ℕ) → IsBack rows a place None next → (None ≡ before place (of_account a rows)) × (next ≡ after place (of_account a rows))
  back_none next w = by w.front w.is w.ends
    where
      by : (front : List Entry) → of_account a rows ≡ front ++ w.back → None ≡ last_place front → (None ≡ before place (of_account a rows)) × (next ≡ after place (of_account a rows))
      by [] is e = (
        sym (ap (before place) is ∙ prev_between place [] w.back tt w.above),
        w.begins ∙ sym (ap (after place) is ∙ next_between place [] w.back tt w.above),
      )
      by (x ∷ front) is e = absurd (none-some _ e)

  -- the last source up to here stands before the place
  pub back_some : (here : ℕ) (next : Option ℕ) → IsBack rows a place (Some here) next → here < place → (Some here ≡ before place (of_account a rows)) × (next ≡ after place (of_account a rows))
  back_some here next w lt =
      let rises : Rises (w.front ++ w.back) = subst Rises w.is (rises-filter (is_of a) rows order.rises) in
      let below : AreBelow place w.front = all_more (λ (s : Entry). s.1.order ≤ here) (λ (s : Entry). s.1.order < place) (λ s le. omega (arith, le, lt)) w.front (last_most w.front (front_rises w.front w.back rises) here (sym w.ends)) in (
        w.ends ∙ sym (ap (before place) w.is ∙ prev_between place w.front w.back below w.above),
        w.begins ∙ sym (ap (after place) w.is ∙ next_between place w.front w.back below w.above),
      )
    where
      left_all : (p : ℕ) (xs ys : List Entry) → AreAbove p (xs ++ ys) → AreAbove p xs
      left_all p [] ys h = tt
      left_all p (x ∷ xs) ys h = (h.0, left_all p xs ys h.1)

      front_rises : (xs ys : List Entry) → Rises (xs ++ ys) → Rises xs
      front_rises [] ys r = tt
      front_rises (x ∷ xs) ys r = (left_all x.1.order xs ys r.0, front_rises xs ys r.1)

  -- a source above the place is stepped over
  pub back_goes : (o : OriginTexts) (here : ℕ) (next prev' : Option ℕ) → IsBack rows a place (Some here) next → (here < place → ⊥) → list_any (is_at place) rows ≡ false
      → ((l : LinkedRow) → linked_at o here rows ≡ Some l → IfSome l.before (λ p. p < here) → prev' ≡ l.before) → IsBack rows a place prev' (Some here)
  back_goes o here next prev' w over free step = by (last_split w.front here (sym w.ends))
    where
      by : IsLast w.front here → IsBack rows a place prev' (Some here)
      by l =
          let is : of_account a rows ≡ l.front ++ l.x ∷ w.back = w.is ∙ ap (λ xs. xs ++ w.back) l.is ∙ append_assoc l.front (l.x ∷ []) w.back in
          let in_rows : IsIn l.x rows = (in_filter (is_of a) rows l.x (subst (IsIn l.x) (sym is) (in_middle l.front w.back l.x))).0 in
          let apart : l.x.1.order ≡ place → ⊥ = λ e. true≢false (sym (in_any (is_at place) rows l.x in_rows (eq-eqb l.x.1.order place e)) ∙ free) in
          let row : linked_at o here rows ≡ Some (linked o rows l.x) = subst (λ p. linked_at o p rows ≡ Some (linked o rows l.x)) l.place_is (row_here o rows order a l.front l.x w.back is) in
          let prev_is = before_here o rows order a l.front l.x w.back is in
          let falls : IfSome (last_place l.front) (λ p. p < here) = low l.front (last_place l.front) refl (front_below o rows order a l.front l.x w.back is) l.place_is in
          record {
            front = l.front;
            back = l.x ∷ w.back;
            is = is;
            ends = step (linked o rows l.x) row (subst (λ o. IfSome o (λ p. p < here)) (sym prev_is) falls) ∙ prev_is;
            begins = ap Some (sym l.place_is);
            above = (omega (arith, over, apart, l.place_is), w.above);
          }
        where
          low : (xs : List Entry) (o : Option ℕ) → last_place xs ≡ o → AreBelow l.x.1.order xs → l.x.1.order ≡ here → IfSome o (λ p. p < here)
          low xs None e below at = tt
          low xs (Some p) e below at = let m = last_in xs p e in omega (arith, in_all (λ (s : Entry). s.1.order < l.x.1.order) xs below m.0 m.1, m.2, at)

-- ---- the last of a balance is a place of 64 bits

last_known : (a : ℕ) (xs : List Entry) (b : Balance) → balance_of a xs ≡ Some b → Some b.last ≡ last_place xs
last_known a [] b is = absurd (none-some b is)
last_known a (x ∷ xs) b is = ap (option_map (λ (y : Balance). y.last)) (sym is)

pub last_link : (rows : List Entry) → AreRows rows → (a : ℕ) (b : Balance) → balance_at a rows ≡ Some b → place_in b.last ≡ last_place (of_account a rows)
last_link rows order a b is =
    let at = last_known a (of_account a rows) b is in
    let l = last_in (of_account a rows) b.last (sym at) in
    let k = in_filter (is_of a) rows l.0 l.1 in
    place_in_fits b.last (subst (λ p. p < 2 ^ 63) l.2 (in_all IsInRange rows order.in_range l.0 k.0).2) ∙ at

-- what is left to walk back: more at a place than at each below it
abbrev pub left : Option ℕ → ℕ
left None = 0
left (Some p) = suc p
