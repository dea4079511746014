-- One source more, and one less, are the changes that the code makes of the tables.
use Rattle.std.proofs.Common.{◌≡◌, ℕ, ◌≤◌, ◌==◌, cond, true, false, min, List, ◌∷◌, ◌++◌, Option, Some, None, option_map, refl, sym, ap, ◌∙◌, subst}
use Rattle.std.specs.Prelude.{find, unwrap_or}
use Rattle.std.specs.Option.{option_and_then}
use Rattle.std.specs.List.{list_any}
use Rattle.std.proofs.lemmas.Bool.{ne_eqb}
use Rattle.std.proofs.lemmas.Option.{none-some}
use Rattle.dubp_cond.specs.declared.source.SourceId.{SourceId}
use Rattle.dubp_sindex.specs.declared.origins.Name.{Name}
use Rattle.dubp_sindex.specs.declared.rows.SourceRow.{SourceRow}
use Rattle.dubp_sindex.specs.declared.rows.LinkedRow.{LinkedRow}
use Rattle.dubp_sindex.specs.declared.rows.Balance.{Balance}
use Rattle.dubp_sindex.specs.Rows.{Entry, is_named, of_account, row_at, units, units_of_entry, without, Rises, IsInRange, AreRows, Fits}
use Rattle.dubp_sindex.specs.Origins.{OriginTexts, is_known, AreKnown, name_of}
use Rattle.dubp_sindex.specs.Derived.{place_of, place_at, first_place, last_place, before, after, linked, is_at, linked_at, balance_at}
use Rattle.dubp_sindex.specs.Links.{place_in, place_in_fits}
use Rattle.dubp_sindex.specs.Changes.{is_place, with_after, with_before, changed, JoinFits, joined, parted, IsChanged}
use Rattle.dubp_sindex.proofs.Elements.{IsIn, in_all, none_in, split_at, in_middle, found_in}
use Rattle.dubp_sindex.proofs.Named.{place_by_name}
use Rattle.dubp_sindex.proofs.Sources.{same_source_is}
use Rattle.dubp_sindex.proofs.Derived.{IsFree, more_name, gone_name, without_is, base_fits}
use Rattle.dubp_sindex.proofs.Sums.{join_is}
use Rattle.dubp_sindex.proofs.Linked.{found_own, own_row, free_prev, free_next, gone_row, more_row, gone_balance, more_balance}

-- ---- one source more

module _ (o : OriginTexts) (front : List Entry) (r : Entry) (back : List Entry) (rises : Rises (front ++ r ∷ back)) (free : IsFree (front ++ back) r) (all : AreKnown o (front ++ back)) (known : is_known o r.0 ≡ true) (prev next here : Option ℕ) (balance : Balance)
    (prev_is : prev ≡ before r.1.order (of_account r.1.account (front ++ back)))
    (next_is : next ≡ after r.1.order (of_account r.1.account (front ++ back)))
    (here_is : here ≡ Some r.1.order)
    (balance_is : balance ≡ joined (balance_at r.1.account (front ++ back)) r.1.account (units_of_entry r) r.1.order prev next) where
  last_is : last_place (of_account r.1.account front) ≡ prev
  last_is = sym (prev_is ∙ free_prev o front r back rises)

  first_is : first_place (of_account r.1.account back) ≡ next
  first_is = sym (next_is ∙ free_next o front r back rises)

  pub is_more : IsChanged o (name_of o r.0) (record {
    place = r.1.order;
    own = Some (record { name = name_of o r.0; row = r.1; before = prev; after = next });
    before = prev;
    after = next;
    behind = here;
    ahead = here;
    account = r.1.account;
    balance = Some balance;
  }) (front ++ back) (front ++ r ∷ back)
  is_more = record {
    named = λ x. more_name o front back r free all known x;
    row = λ q. more_row o front r back rises q
        ∙ (λ i. cond (q == r.1.order) (Some (record { name = name_of o r.0; row = r.1; before = last_is i; after = first_is i }))
        (changed (is_place q (first_is i)) (with_before (sym here_is i)) (changed (is_place q (last_is i)) (with_after (sym here_is i)) (linked_at o q (front ++ back)))));
    balance = λ a. more_balance front r back a
        ∙ (λ i. cond (a == r.1.account) (Some (joined (balance_at r.1.account (front ++ back)) r.1.account (units_of_entry r) r.1.order (last_is i) (first_is i))) (balance_at a (front ++ back)))
        ∙ (λ i. cond (a == r.1.account) (Some (sym balance_is i)) (balance_at a (front ++ back)));
  }

-- a free place is that of none of the rows
pub free_place : (rows : List Entry) (r : Entry) → IsFree rows r → list_any (is_at r.1.order) rows ≡ false
free_place rows r free = none_in (is_at r.1.order) rows (λ x there. ne_eqb x.1.order r.1.order (free.unplaced x there))

-- what the code makes of the rows, from what it found
module _ (o : OriginTexts) (rows front : List Entry) (r : Entry) (back : List Entry) (are : front ++ back ≡ rows) (order : AreRows rows) (rises : Rises (front ++ r ∷ back)) (free : IsFree rows r) (all : AreKnown o rows) (known : is_known o r.0 ≡ true) (in_range : IsInRange r) (fits : Fits rows r) where
  pub is_made : (name : Name) → name ≡ name_of o r.0 → (was : Option Balance) → was ≡ balance_at r.1.account rows → (n : ℕ) → n ≡ units r.1.amount (min r.1.base 15) → (prev next here : Option ℕ)
      → prev ≡ before r.1.order (of_account r.1.account rows) → next ≡ after r.1.order (of_account r.1.account rows) → here ≡ place_in r.1.order
      → (balance : Balance) → (JoinFits was n → balance ≡ joined was r.1.account n r.1.order prev next)
      → IsChanged o name (record {
        place = r.1.order;
        own = Some (record { name = name; row = r.1; before = prev; after = next });
        before = prev;
        after = next;
        behind = here;
        ahead = here;
        account = r.1.account;
        balance = Some balance;
      }) rows (front ++ r ∷ back)
  is_made name name_is was was_is n n_is prev next here prev_is next_is here_is balance join =
      let balance_is = join_is rows r was was_is order fits n (n_is ∙ base_fits r.1.amount r.1.base in_range.1) prev next balance join in
      subst (λ m. IsChanged o m (record {
        place = r.1.order;
        own = Some (record { name = m; row = r.1; before = prev; after = next });
        before = prev;
        after = next;
        behind = here;
        ahead = here;
        account = r.1.account;
        balance = Some balance;
      }) rows (front ++ r ∷ back)) (sym name_is)
      (subst (λ l. IsFree l r → AreKnown o l → prev ≡ before r.1.order (of_account r.1.account l) → next ≡ after r.1.order (of_account r.1.account l)
      → balance ≡ joined (balance_at r.1.account l) r.1.account (units_of_entry r) r.1.order prev next
      → IsChanged o (name_of o r.0) (record {
        place = r.1.order;
        own = Some (record { name = name_of o r.0; row = r.1; before = prev; after = next });
        before = prev;
        after = next;
        behind = here;
        ahead = here;
        account = r.1.account;
        balance = Some balance;
      }) l (front ++ r ∷ back)) are
      (λ free all p n b. is_more o front r back rises free all known prev next here balance p n (here_is ∙ place_in_fits r.1.order in_range.2) b) free all prev_is next_is balance_is)

-- ---- one source less

module _ (o : OriginTexts) (front : List Entry) (r : Entry) (back : List Entry) (order : AreRows (front ++ r ∷ back)) (all : AreKnown o (front ++ r ∷ back)) (place : ℕ) (row : LinkedRow) (balance : Option Balance)
    (place_is : place ≡ r.1.order) (row_is : row ≡ linked o (front ++ r ∷ back) r)
    (balance_is : balance ≡ option_and_then (parted (units_of_entry r) row.before row.after) (balance_at r.1.account (front ++ r ∷ back))) where
  -- its neighbours are those that its row tells
  own_is : row ≡ record { name = name_of o r.0; row = r.1; before = last_place (of_account r.1.account front); after = first_place (of_account r.1.account back) }
  own_is = row_is ∙ ap (λ found. unwrap_or found row) (sym (ap (option_map (linked o (front ++ r ∷ back))) (found_own o front r back order.rises)) ∙ own_row o front r back order.rises)

  last_was : last_place (of_account r.1.account front) ≡ row.before
  last_was = sym (ap (λ (l : LinkedRow). l.before) own_is)

  first_was : first_place (of_account r.1.account back) ≡ row.after
  first_was = sym (ap (λ (l : LinkedRow). l.after) own_is)

  pub is_less : IsChanged o (name_of o r.0) (record {
    place = place;
    own = None;
    before = row.before;
    after = row.after;
    behind = row.after;
    ahead = row.before;
    account = row.row.account;
    balance = balance;
  }) (front ++ r ∷ back) (without r.0 (front ++ r ∷ back))
  is_less = record {
    named = λ x. gone_name o (front ++ r ∷ back) r order all (in_middle front back r) x;
    row = λ q. ap (linked_at o q) (without_is front r back order) ∙ gone_row o front r back order.rises q
        ∙ (λ i. cond (q == sym place_is i) None (changed (is_place q (first_was i)) (with_before (last_was i)) (changed (is_place q (last_was i)) (with_after (first_was i)) (linked_at o q (front ++ r ∷ back)))));
    balance = λ a. ap (balance_at a) (without_is front r back order) ∙ gone_balance front r back a
        ∙ (λ i. cond (a == r.1.account) (option_and_then (parted (units_of_entry r) (last_was i) (first_was i)) (balance_at r.1.account (front ++ r ∷ back))) (balance_at a (front ++ r ∷ back)))
        ∙ (λ i. cond (a == (sym row_is i).row.account) (sym balance_is i) (balance_at a (front ++ r ∷ back)));
  }

-- ---- the row that a name and a place lead to

pub record IsNamed (o : OriginTexts) (id : SourceId) (rows : List Entry) (place : ℕ) : Type 0 where
  pub entry : Entry
  pub named : find (is_named id) rows ≡ Some entry
  pub there : IsIn entry rows
  pub name : id ≡ entry.0
  pub place_is : place ≡ entry.1.order
  pub row : linked_at o place rows ≡ Some (linked o rows entry)

-- what stands at the place of a row
pub row_of_place : (o : OriginTexts) (rows : List Entry) → Rises rows → (e : Entry) → IsIn e rows → linked_at o e.1.order rows ≡ Some (linked o rows e)
row_of_place o rows rises e there =
    let s = split_at rows e there in
    subst (λ l. linked_at o e.1.order l ≡ Some (linked o l e)) (sym s.is) (ap (option_map (linked o (s.front ++ e ∷ s.back))) (found_own o s.front e s.back (subst Rises s.is rises)))

module _ (o : OriginTexts) (id : SourceId) (rows : List Entry) (order : AreRows rows) (all : AreKnown o rows) (known : is_known o id ≡ true) where
  pub named_row : (place : ℕ) → place_at o (name_of o id) rows ≡ Some place → IsNamed o id rows place
  named_row place is = by (find (is_named id) rows) refl (sym (place_by_name o id known rows all) ∙ is)
    where
      by : (found : Option Entry) → find (is_named id) rows ≡ found → option_map place_of found ≡ Some place → IsNamed o id rows place
      by None e is = absurd (none-some place is)
      by (Some x) e is =
          let f = found_in (is_named id) rows x e in
          let at : x.1.order ≡ place = ap (λ p. unwrap_or p place) is in
          record {
            entry = x;
            named = e;
            there = f.0;
            name = same_source_is id x.0 f.1;
            place_is = sym at;
            row = subst (λ p. linked_at o p rows ≡ Some (linked o rows x)) at (row_of_place o rows order.rises x f.0);
          }

  -- a source without a place has no row
  pub unnamed_row : place_at o (name_of o id) rows ≡ None → row_at id rows ≡ None
  unnamed_row is = by (find (is_named id) rows) (sym (place_by_name o id known rows all) ∙ is)
    where
      by : (found : Option Entry) → option_map place_of found ≡ None → option_map (λ (e : Entry). e.1) found ≡ None
      by None is = refl
      by (Some x) is = absurd (none-some _ (sym is))

  pub row_by_name : (place : ℕ) (l : LinkedRow) → place_at o (name_of o id) rows ≡ Some place → linked_at o place rows ≡ Some l → Some l.row ≡ row_at id rows
  row_by_name place l is at =
      let n = named_row place is in
      ap (option_map (λ (x : LinkedRow). x.row)) (sym at ∙ n.row) ∙ sym (ap (option_map (λ (e : Entry). e.1)) n.named)

  pub row_there_by_name : (place : ℕ) → place_at o (name_of o id) rows ≡ Some place → linked_at o place rows ≡ None → ⊥
  row_there_by_name place is none = none-some _ (sym none ∙ (named_row place is).row)

-- ---- spending by what was found

moved : (o : OriginTexts) (rows front : List Entry) (r : Entry) (back : List Entry) → rows ≡ front ++ r ∷ back → AreRows rows → AreKnown o rows → (place : ℕ) (row : LinkedRow) (balance : Option Balance)
    → place ≡ r.1.order → row ≡ linked o rows r → balance ≡ option_and_then (parted (units_of_entry r) row.before row.after) (balance_at r.1.account rows)
    → IsChanged o (name_of o r.0) (record { place = place; own = None; before = row.before; after = row.after; behind = row.after; ahead = row.before; account = row.row.account; balance = balance }) rows (without r.0 rows)
moved o rows front r back are order all place row balance place_is row_is balance_is =
    subst (λ l. AreRows l → AreKnown o l → row ≡ linked o l r → balance ≡ option_and_then (parted (units_of_entry r) row.before row.after) (balance_at r.1.account l)
    → IsChanged o (name_of o r.0) (record { place = place; own = None; before = row.before; after = row.after; behind = row.after; ahead = row.before; account = row.row.account; balance = balance }) l (without r.0 l)) (sym are)
    (λ ord all row_is bal. is_less o front r back ord all place row balance place_is row_is bal) order all row_is balance_is

pub is_gone : (o : OriginTexts) (id : SourceId) (name : Name) → name ≡ name_of o id → (rows : List Entry) (place : ℕ) (row : LinkedRow) → AreRows rows → AreKnown o rows → is_known o id ≡ true → place_at o name rows ≡ Some place → linked_at o place rows ≡ Some row
    → (was : Option Balance) → was ≡ balance_at row.row.account rows → (n : ℕ) → n ≡ units row.row.amount (min row.row.base 15)
    → (balance : Option Balance) → balance ≡ option_and_then (parted n row.before row.after) was
    → IsChanged o name (record { place = place; own = None; before = row.before; after = row.after; behind = row.after; ahead = row.before; account = row.row.account; balance = balance }) rows (without id rows)
is_gone o id name name_is rows place row order all known is at was was_is n n_is balance balance_is =
    let m = named_row o id rows order all known place (ap (λ x. place_at o x rows) (sym name_is) ∙ is) in
    let row_is : row ≡ linked o rows m.entry = ap (λ found. unwrap_or found row) (sym at ∙ m.row) in
    let own : m.entry.1 ≡ row.row = ap (λ (l : LinkedRow). l.row) (sym row_is) in
    let fits : row.row.base ≤ 15 = subst (λ (x : SourceRow). x.base ≤ 15) own (in_all IsInRange rows order.in_range m.entry m.there).1 in
    let exact : n ≡ units row.row.amount row.row.base = n_is ∙ base_fits row.row.amount row.row.base fits in
    let whole : balance ≡ option_and_then (parted (units_of_entry m.entry) row.before row.after) (balance_at m.entry.1.account rows) =
    balance_is ∙ (λ i. option_and_then (parted (exact i) row.before row.after) (was_is i))
    ∙ ap (λ (x : SourceRow). option_and_then (parted (units x.amount x.base) row.before row.after) (balance_at x.account rows)) (sym own) in
    let s = split_at rows m.entry m.there in
    subst (λ x. IsChanged o x (record { place = place; own = None; before = row.before; after = row.after; behind = row.after; ahead = row.before; account = row.row.account; balance = balance }) rows (without id rows)) (sym name_is)
    (subst (λ name. IsChanged o (name_of o name) (record { place = place; own = None; before = row.before; after = row.after; behind = row.after; ahead = row.before; account = row.row.account; balance = balance }) rows (without name rows)) (sym m.name)
    (moved o rows s.front m.entry s.back s.is order all place row balance m.place_is row_is whole))
