-- What a walk over the live pairs tells of the rows.
use Rattle.std.proofs.Common.{◌≡◌, Bool, true, false, cond, List, [], ◌∷◌, ◌++◌, Option, Some, None, map, filter, refl, ap, sym, ◌∙◌, subst, true≢false, inl, inr}
use Rattle.std.specs.Prelude.{is_some}
use Rattle.std.specs.List.{All, Contains}
use Rattle.std.specs.FinMap.{entries, entries_sorted}
use Rattle.std.specs.FinMap as finite
use Rattle.std.proofs.lemmas.List.{append-nil, map-append, append_assoc, append_cancel_left}
use Rattle.std.proofs.lemmas.List.Elements.{All-nil, All-cons, All-weaker, All-contains, Contains-append_left, Contains-append_right, Contains-push}
use Rattle.std.proofs.lemmas.Option.{none-some}
use Rattle.dubp_atoms.specs.Same.{Text, same_text}
use Rattle.dubp_undo.specs.MovingTable.{get}
use Rattle.dubp_cindex.specs.declared.row.CertRow.{CertRow}
use Rattle.dubp_cindex.specs.Orders.{Place, place_cmp, is_above, IsNext, IsNextIssuer, AreNext}
use Rattle.dubp_cindex.specs.Following.{Follows}
use Rattle.dubp_cindex.specs.Rows.{Rows, Entry, live_to, live_from, lives, one_if, row_at, received_by_at, live_pairs, told}
use Rattle.dubp_cindex.proofs.Texts.{same_text_is, same_text_own}
use Rattle.dubp_cindex.proofs.Walked.{IsIn, up_to, up_to-none, up_to-next, up_to-same, up_to-all, apart_above, walk-next, walk-end}
use Rattle.dubp_cindex.proofs.Entries.{got_in, in_got, first_true, second_true, both_true, to_climbs, from_climbs}

lives_some : (o : Option CertRow) (r : CertRow) → o ≡ Some r → r.live ≡ true → lives o ≡ true
lives_some o r e h = ap lives e ∙ h

some_lives : (o : Option CertRow) → lives o ≡ true → is_some o ≡ true
some_lives None h = h
some_lives (Some r) h = refl

module _ (rows : Rows) (key : Text) where
  abbrev received_up_to : Option Text → List Entry
  received_up_to after = up_to (live_to key) (λ (e : Entry). e.0.0) after (entries rows)

  abbrev issued_up_to : Option Text → List Entry
  issued_up_to after = up_to (live_from key) (λ (e : Entry). e.0.1) after (entries rows)

  to_shown : (a : Text) (r : CertRow) → finite.get rows (a, key) ≡ Some r → r.live ≡ true → IsIn ((a, key), r) (entries rows) × (live_to key ((a, key), r) ≡ true)
  to_shown a r h l = (got_in rows (a, key) r h, both_true (same_text key key) r.live (same_text_own key) l)

  to_shows : (x : Entry) → IsIn x (entries rows) → live_to key x ≡ true → lives (finite.get rows (x.0.0, key)) ≡ true
  to_shows x there p = lives_some (finite.get rows (x.0.0, key)) x.1 (ap (λ q. finite.get rows (x.0.0, q)) (same_text_is key x.0.1 (first_true _ _ p)) ∙ in_got rows x there) (second_true (same_text key x.0.1) _ p)

  from_shown : (a : Text) (r : CertRow) → finite.get rows (key, a) ≡ Some r → r.live ≡ true → IsIn ((key, a), r) (entries rows) × (live_from key ((key, a), r) ≡ true)
  from_shown a r h l = (got_in rows (key, a) r h, both_true (same_text key key) r.live (same_text_own key) l)

  from_shows : (x : Entry) → IsIn x (entries rows) → live_from key x ≡ true → lives (finite.get rows (key, x.0.1)) ≡ true
  from_shows x there p = lives_some (finite.get rows (key, x.0.1)) x.1 (ap (λ q. finite.get rows (q, x.0.1)) (same_text_is key x.0.0 (first_true _ _ p)) ∙ in_got rows x there) (second_true (same_text key x.0.0) _ p)

  module _ (m : List (Place × Unit {0})) where
    pub received-next : ((k : Place) → get place_cmp m k ≡ received_by_at rows k.0 k.1) → (after : Option Text) (a : Text) → Follows m key after (Some (a, tt)) → (r : CertRow) × (finite.get rows (a, key) ≡ Some r) × (received_up_to (Some a) ≡ received_up_to after ++ ((a, key), r) ∷ [])
    received-next is after a f =
        walk-next (live_to key) (λ (e : Entry). e.0.0) (entries rows) (λ a r. ((a, key), r)) (λ a. finite.get rows (a, key)) (λ a r. refl) to_shown to_shows (to_climbs key (entries rows) (entries_sorted rows)) m key (λ a. is (key, Some a)) after a f

    pub received-end : ((k : Place) → get place_cmp m k ≡ received_by_at rows k.0 k.1) → (after : Option Text) → Follows m key after None → received_up_to after ≡ filter (live_to key) (entries rows)
    received-end is after f =
        walk-end (live_to key) (λ (e : Entry). e.0.0) (entries rows) (λ a r. ((a, key), r)) (λ a. finite.get rows (a, key)) (λ a r. refl) to_shown to_shows (to_climbs key (entries rows) (entries_sorted rows)) m key (λ a. is (key, Some a)) after f

  -- the rows from the key, live or not, as their table has them
  module _ (m : List (Place × CertRow)) (is : (k : Place) → get place_cmp m k ≡ row_at rows k.0 k.1) where
    row_there : (a : Text) (r : CertRow) → get place_cmp m (key, Some a) ≡ Some r → finite.get rows (key, a) ≡ Some r
    row_there a r h = sym (is (key, Some a)) ∙ h

    place_there : (x : Entry) → IsIn x (entries rows) → live_from key x ≡ true → is_some (get place_cmp m (key, Some x.0.1)) ≡ true
    place_there x there p = ap is_some (is (key, Some x.0.1)) ∙ some_lives (finite.get rows (key, x.0.1)) (from_shows x there p)

    issued-live : (after : Option Text) (a : Text) (r : CertRow) → Follows m key after (Some (a, r)) → r.live ≡ true → issued_up_to (Some a) ≡ issued_up_to after ++ ((key, a), r) ∷ []
    issued-live after a r f l =
        let there = from_shown a r (row_there a r f.0) l in
        up_to-next (live_from key) (λ (e : Entry). e.0.1) after ((key, a), r) (entries rows) (from_climbs key (entries rows) (entries_sorted rows)) there.0 there.1 f.1
        (λ x in_rows p above. f.2 x.0.1 above (place_there x in_rows p))

    issued-ended : (after : Option Text) (a : Text) (r : CertRow) → Follows m key after (Some (a, r)) → r.live ≡ false → issued_up_to (Some a) ≡ issued_up_to after
    issued-ended after a r f l =
        up_to-same (live_from key) (λ (e : Entry). e.0.1) after a (entries rows) f.1
        (λ x in_rows p above. apart_above a x.0.1 (λ same. true≢false (sym (from_shows x in_rows p) ∙ ap (λ q. lives (finite.get rows (key, q))) same ∙ ap lives (row_there a r f.0) ∙ l)) (f.2 x.0.1 above (place_there x in_rows p)))

    pub issued-end : (after : Option Text) → Follows m key after None → issued_up_to after ≡ filter (live_from key) (entries rows)
    issued-end after f =
        up_to-all (live_from key) (λ (e : Entry). e.0.1) after (entries rows) (λ x in_rows p. elim (is_above after x.0.1) as (λ t. is_above after x.0.1 ≡ t → t ≡ false) [
          | true ↦ λ h. absurd (true≢false (sym (place_there x in_rows p) ∙ ap is_some (f x.0.1 h)))
          | false ↦ λ h. refl
        ] refl)

  -- the row in its table
  pub received-row : (n : List (Place × CertRow)) → ((k : Place) → get place_cmp n k ≡ row_at rows k.0 k.1) → (a : Text) (r : CertRow) → finite.get rows (a, key) ≡ Some r → get place_cmp n (a, Some key) ≡ Some r
  received-row n is a r h = is (a, Some key) ∙ h

  pub received-none : received_up_to None ≡ []
  received-none = up_to-none (live_to key) (λ (e : Entry). e.0.0) (entries rows)

  pub issued-none : issued_up_to None ≡ []
  issued-none = up_to-none (live_from key) (λ (e : Entry). e.0.1) (entries rows)

-- what is found, one more, and at the end
module _ {A : Type 0} (f : Entry → A) where
  pub told-none : (items : List A) (xs : List Entry) → xs ≡ [] → items ≡ items ++ map f xs
  told-none items xs e = sym (ap (λ l. items ++ map f l) e ∙ append-nil items)

  pub told-more : (items now next : List A) (xs ys : List Entry) (e : Entry) → now ≡ items ++ map f xs → next ≡ now ++ f e ∷ [] → ys ≡ xs ++ e ∷ [] → next ≡ items ++ map f ys
  told-more items now next xs ys e is more up =
      more ∙ ap (λ l. l ++ f e ∷ []) is ∙ append_assoc items (map f xs) (f e ∷ []) ∙ ap (λ l. items ++ l) (sym (map-append f xs (e ∷ [])) ∙ ap (map f) (sym up))

  pub told-all : (items now : List A) (xs ys : List Entry) → now ≡ items ++ map f xs → xs ≡ ys → now ≡ items ++ map f ys
  told-all items now xs ys is e = is ∙ ap (λ l. items ++ map f l) e

-- what is found where the next row of the key is passed, live or not
module _ (rows : Rows) (key : Text) (m : List (Place × CertRow)) (is : (k : Place) → get place_cmp m k ≡ row_at rows k.0 k.1) where
  pub issued-more : (after : Option Text) (a : Text) (r : CertRow) (items now next : List (Text × Text × CertRow)) → Follows m key after (Some (a, r))
      → (r.live ≡ true → next ≡ now ++ (key, a, r) ∷ []) → (r.live ≡ false → next ≡ now) → now ≡ items ++ map told (issued_up_to rows key after) → next ≡ items ++ map told (issued_up_to rows key (Some a))
  issued-more after a r items now next f live ended before =
      elim (r.live) as (λ b. r.live ≡ b → next ≡ items ++ map told (issued_up_to rows key (Some a))) [
        | true ↦ λ l. told-more told items now next (issued_up_to rows key after) (issued_up_to rows key (Some a)) ((key, a), r) before (live l) (issued-live rows key m is after a r f l)
        | false ↦ λ l. ended l ∙ before ∙ ap (λ es. items ++ map told es) (sym (issued-ended rows key m is after a r f l))
      ] refl

-- ---- the live pairs

in_contains : {X : Type 0} (x : X) (xs : List X) → IsIn x xs → Contains xs x
in_contains x [] there = absurd there
in_contains x (y ∷ ys) (inl e) = Contains-append_left (y ∷ []) ys x (subst (λ z. Contains (y ∷ []) z) e (Contains-push [] y))
in_contains x (y ∷ ys) (inr there) = Contains-append_right (y ∷ []) ys x (in_contains x ys there)

all_own : {X : Type 0} (xs : List X) → All (λ z. IsIn z xs) xs
all_own {X} [] = All-nil (λ z. ⊥)
all_own {X} (y ∷ ys) = All-cons (λ z. IsIn z (y ∷ ys)) y ys (inl refl) (All-weaker (λ z. IsIn z ys) (λ z. IsIn z (y ∷ ys)) (λ z there. inr there) ys (all_own ys))

contains_in : {X : Type 0} (x : X) (xs : List X) → Contains xs x → IsIn x xs
contains_in x xs c = All-contains (λ z. IsIn z xs) xs x (all_own xs) c

live_in : (p : Text × Text) (es : List Entry) → IsIn p (map (λ (e : Entry). e.0) (filter (λ (e : Entry). e.1.live) es)) → (x : Entry) × IsIn x es × (x.1.live ≡ true) × (x.0 ≡ p)
live_in p [] there = absurd there
live_in p (e ∷ es) there =
    elim (e.1.live) as (λ b. e.1.live ≡ b → IsIn p (map (λ (x : Entry). x.0) (cond b (e ∷ filter (λ (x : Entry). x.1.live) es) (filter (λ (x : Entry). x.1.live) es))) → (x : Entry) × IsIn x (e ∷ es) × (x.1.live ≡ true) × (x.0 ≡ p)) [
      | true ↦ λ l has. elim has [ inl same ↦ (e, inl refl, l, same) | inr more ↦ let rest = live_in p es more in (rest.0, inr rest.1, rest.2, rest.3) ]
      | false ↦ λ l more. let rest = live_in p es more in (rest.0, inr rest.1, rest.2, rest.3)
    ] refl there

in_live : (x : Entry) (es : List Entry) → IsIn x es → x.1.live ≡ true → IsIn x.0 (map (λ (e : Entry). e.0) (filter (λ (e : Entry). e.1.live) es))
in_live x [] there l = absurd there
in_live x (e ∷ es) (inl same) l =
    subst (λ b. IsIn x.0 (map (λ (y : Entry). y.0) (cond b (e ∷ filter (λ (y : Entry). y.1.live) es) (filter (λ (y : Entry). y.1.live) es)))) (sym (ap (λ (y : Entry). y.1.live) same ∙ l)) (inl (ap (λ (y : Entry). y.0) same))
in_live x (e ∷ es) (inr there) l =
    let rest = in_live x es there l in
    elim (e.1.live) as (λ b. IsIn x.0 (map (λ (y : Entry). y.0) (cond b (e ∷ filter (λ (y : Entry). y.1.live) es) (filter (λ (y : Entry). y.1.live) es)))) [ true ↦ inr rest | false ↦ rest ]

-- a pair is among the live ones exactly where its row lives
pub contains_lives : (rows : Rows) (a to : Text) → Contains (live_pairs rows) (a, to) → lives (finite.get rows (a, to)) ≡ true
contains_lives rows a to c =
    let one = live_in (a, to) (entries rows) (contains_in (a, to) (live_pairs rows) c) in
    lives_some (finite.get rows (a, to)) one.0.1 (ap (finite.get rows) (sym one.3) ∙ in_got rows one.0 one.1) one.2

pub lives_contains : (rows : Rows) (a to : Text) → lives (finite.get rows (a, to)) ≡ true → Contains (live_pairs rows) (a, to)
lives_contains rows a to h =
    elim (finite.get rows (a, to)) as (λ o. finite.get rows (a, to) ≡ o → lives o ≡ true → Contains (live_pairs rows) (a, to)) [
      | None ↦ λ _ n. absurd (true≢false (sym n))
      | Some r ↦ λ e l. in_contains (a, to) (live_pairs rows) (in_live ((a, to), r) (entries rows) (got_in rows (a, to) r e) l)
    ] refl h

one_lives : (b : Bool) → one_if b ≡ Some tt → b ≡ true
one_lives true h = refl
one_lives false h = absurd (none-some tt h)

module _ (rows : Rows) (to : Text) (m : List (Place × Unit {0})) (is : (k : Place) → get place_cmp m k ≡ received_by_at rows k.0 k.1) (after : Option Text) where
  there : (a : Text) → Contains (live_pairs rows) (a, to) → get place_cmp m (to, Some a) ≡ Some tt
  there a c = is (to, Some a) ∙ ap one_if (contains_lives rows a to c)

  pub next-some : (a : Text) → Follows m to after (Some (a, tt)) → IsNextIssuer (live_pairs rows) to after (Some a)
  next-some a f = (lives_contains rows a to (one_lives (lives (finite.get rows (a, to))) (sym (is (to, Some a)) ∙ f.0)), f.1, λ b c above. f.2 b above (ap is_some (there b c)))

  pub next-none : Follows m to after None → IsNextIssuer (live_pairs rows) to after None
  next-none f = λ a c. elim (is_above after a) as (λ t. is_above after a ≡ t → t ≡ false) [
    | true ↦ λ h. absurd (none-some tt (sym (f a h) ∙ there a c))
    | false ↦ λ h. refl
  ] refl

-- ---- all issuers, one behind the other

-- one more was put
pub begins-more : (old now new some : List Text) (k : Text) → new ≡ now ++ k ∷ [] → now ≡ old ++ some → new ≡ old ++ (some ++ k ∷ [])
begins-more old now new some k put is = put ∙ ap (λ xs. xs ++ k ∷ []) is ∙ append_assoc old some (k ∷ [])

pub next-more : (P : Text → Type 0) (after : Option Text) (some : List Text) (k : Text) → IsNext P after (Some k)
    → ((rest : List Text) → AreNext P after rest → AreNext P None (some ++ rest)) → (rest : List Text) → AreNext P (Some k) rest → AreNext P None ((some ++ k ∷ []) ++ rest)
next-more P after some k next before rest more = subst (AreNext P None) (sym (append_assoc some (k ∷ []) rest)) (before (k ∷ rest) (next, more))

-- no more is there
pub next-all : (P : Text → Type 0) (after : Option Text) (some old new keys : List Text) → IsNext P after None → ((rest : List Text) → AreNext P after rest → AreNext P None (some ++ rest))
    → new ≡ old ++ some → new ≡ old ++ keys → AreNext P None keys
next-all P after some old new keys none before is put =
    subst (AreNext P None) (append-nil some ∙ append_cancel_left old some keys (sym is ∙ put)) (before [] none)
