-- The live rows of a key in the index are the live certifications of the chain, in the order of the answer, and tell what it tells.
use Rattle.std.proofs.Common.{◌≡◌, ℕ, ◌+◌, ◌-◌, ◌<◌, ◌^◌, ◌⊎◌, inl, inr, Bool, true, false, cond, ◌&&◌, List, [], ◌∷◌, ◌++◌, Option, None, Some, map, filter, min, refl, sym, ap, subst, ◌∙◌, true≢false, arith}
use Rattle.std.specs.Prelude.{option_map, is_some}
use Rattle.std.specs.Option.{option_map_or}
use Rattle.std.specs.Fmt.{decimal}
use Rattle.std.specs.List.{AllByRecursion, list_any}
use Rattle.std.specs.List.Sorted.{IsStrictlySortedBy}
use Rattle.std.specs.FinMap.{get, empty, entries, entries_sorted}
use Rattle.std.specs.FinMap.Entries.{put, by_order}
use Rattle.std.specs.declared.cmp.Ordering.TheVariants.{Less, Equal, Greater}
use Rattle.std.proofs.lemmas.List.{map-append}
use Rattle.std.proofs.lemmas.Simd.{map-map}
use Rattle.dubp_atoms.specs.Same.{Text, same_text}
use Rattle.dubp_block.specs.declared.block.IdentityLine.{IdentityLine}
use Rattle.dubp_block.specs.declared.block.CertLine.{CertLine}
use Rattle.dubp_moving.specs.States.{newest, states}
use Rattle.dubp_chain.specs.Words.{names, marked, in_order}
use Rattle.dubp_chain.specs.Chains.{Chain, params}
use Rattle.dubp_chain.specs.Members.{member}
use Rattle.dubp_chain.specs.People.{Written, identity}
use Rattle.dubp_chain.specs.Live.{certification, made_of, end_of, live}
use Rattle.dubp_chain.specs.Tables as chain
use Rattle.dubp_validity.specs.Rules.{IsSound}
use Rattle.dubp_replay.specs.Answers.{certification_values, pairs_to, pairs_from}
use Rattle.dubp_lists.proofs.Elements.{IsIn, and_left, and_right, any_in, in_any, in_filter, kept_in, filter_true, list_any-map}
use Rattle.dubp_lists.proofs.InOrder.{names_in_order, same_text_is, same_text_own}
use Rattle.dubp_people_views.specs.OfSteps.{text_cmp, keys_rise}
use Rattle.dubp_people_views.proofs.OfSteps.{same_keys, same_truth, filtered_keys_rise}
use Rattle.dubp_people_views.proofs.OfSteps.{issuers_to, issuers_named, receivers_from, receivers_named}
use Rattle.dubp_people_views.proofs.OfSteps.{identity_with}
use Rattle.dubp_iindex.specs.declared.row.IdentityRow.{IdentityRow}
use Rattle.dubp_cindex.specs.declared.row.CertRow.{CertRow}
use Rattle.dubp_cindex.specs.Rows.{Rows, Entry, live_to, live_from, lives, rows_about, told}
use Rattle.dubp_cindex.proofs.Walked as walked
use Rattle.dubp_cindex.proofs.Walked.{Climbs}
use Rattle.dubp_cindex.proofs.Entries.{got_in, in_got, to_climbs, from_climbs}
use Rattle.dubp_people_views.specs.OfFacts.{first_at}
use Rattle.dubp_people_views.specs.OfFacts.{First}
use Rattle.dubp_people_views.specs.OfLeft.{identity_entry, identity_left, cert_entry, certification_left, certifications_left}
use Rattle.dubp_people_views.proofs.OfLeft.{certifications-at}
use Rattle.dubp_people_views.proofs.OfLeft.{newest-left}
use Rattle.dubp_people_views.proofs.OfRegistry.{live-shown}
use Rattle.dubp_people_views.specs.Certifications.{certification_texts, certifications_told, view_of}
use Rattle.dubp_people_views.specs.declared.certifications.CertificationView.{CertificationView}
use Rattle.dubp_people_views.proofs.Small.{certification_small, params_short}

-- ---- texts in order are those of the list

abbrev keys : List (Text × Unit {0}) → List Text
keys es = map (λ e. e.0) es

put_in : (k x : Text) (es : List (Text × Unit {0})) → IsIn k (keys (put text_cmp x tt es)) → (k ≡ x) ⊎ IsIn k (keys es)
put_in k x [] there = there
put_in k x (e ∷ es) there =
    elim (text_cmp x e.0) as (λ r. IsIn k (keys (by_order r ((x, tt) ∷ e ∷ es) ((e.0, tt) ∷ es) (e ∷ put text_cmp x tt es))) → (k ≡ x) ⊎ IsIn k (keys (e ∷ es))) [
      | Less ↦ λ h. h
      | Equal ↦ λ h. inr h
      | Greater ↦ λ h. elim h [
        | inl same ↦ inr (inl same)
        | inr later ↦ elim (put_in k x es later) [ inl here ↦ inl here | inr old ↦ inr (inr old) ]
      ]
    ] there

in_order_in : (k : Text) (ks : List Text) → IsIn k (in_order ks) → IsIn k ks
in_order_in k [] there = there
in_order_in k (x ∷ ks) there = elim (put_in k x (marked ks) there) [ inl same ↦ inl same | inr old ↦ inr (in_order_in k ks old) ]

in_order-names : (ks : List Text) (k : Text) → names (in_order ks) k ≡ names ks k
in_order-names ks k = same_truth _ _ there (names_in_order k ks)
  where
    there : names (in_order ks) k ≡ true → names ks k ≡ true
    there e = let h = any_in (same_text k) (in_order ks) e in in_any (same_text k) ks h.0 (in_order_in h.0 ks h.1) h.2

-- a list that rises strictly, and has the texts of another, is that one in order
rising_is : (ks ls : List Text) → IsStrictlySortedBy text_cmp ks → ((a : Text) → names ks a ≡ names ls a) → ks ≡ in_order ls
rising_is ks ls rises same =
    same_keys ks (in_order ls) rises
    (subst (λ (l : List Text). keys_rise l ≡ true) (filter_true (in_order ls)) (filtered_keys_rise (λ _. true) ls))
    (λ a. same a ∙ sym (in_order-names ls a))

-- ---- lists of rows

turned : {X : Type 0} (x : X) (xs : List X) → walked.IsIn x xs → IsIn x xs
turned x [] there = there
turned x (y ∷ ys) (inl e) = inl (sym e)
turned x (y ∷ ys) (inr there) = inr (turned x ys there)

turned_back : {X : Type 0} (x : X) (xs : List X) → IsIn x xs → walked.IsIn x xs
turned_back x [] there = there
turned_back x (y ∷ ys) (inl e) = inl (sym e)
turned_back x (y ∷ ys) (inr there) = inr (turned_back x ys there)

map_on : {X Y : Type 0} (f g : X → Y) (xs : List X) → ((x : X) → IsIn x xs → f x ≡ g x) → map f xs ≡ map g xs
map_on f g [] same = refl
map_on f g (x ∷ xs) same = λ i. same x (inl refl) i ∷ map_on f g xs (λ y there. same y (inr there)) i

module _ (P : Entry → Bool) (pos : Entry → Text) where
  above_kept : (x : Text) (es : List Entry) → AllByRecursion (λ e. P e ≡ true → text_cmp x (pos e) ≡ Less) es → AllByRecursion (λ y. text_cmp x y ≡ Less) (map pos (filter P es))
  above_kept x [] all = tt
  above_kept x (e ∷ es) all =
      elim (P e) as (λ b. P e ≡ b → AllByRecursion (λ y. text_cmp x y ≡ Less) (map pos (cond b (e ∷ filter P es) (filter P es)))) [
        | true ↦ λ is. (all.0 is, above_kept x es all.1)
        | false ↦ λ _. above_kept x es all.1
      ] refl

  kept_rise : (es : List Entry) → Climbs P pos es → IsStrictlySortedBy text_cmp (map pos (filter P es))
  unfolding IsStrictlySortedBy
  kept_rise [] climbs = tt
  kept_rise (e ∷ es) climbs =
      elim (P e) as (λ b. P e ≡ b → IsStrictlySortedBy text_cmp (map pos (cond b (e ∷ filter P es) (filter P es)))) [
        | true ↦ λ is. (above_kept (pos e) es (climbs.0 is), kept_rise es climbs.1)
        | false ↦ λ _. kept_rise es climbs.1
      ] refl

some_live : (o : Option CertRow) → lives o ≡ true → (row : CertRow) × (o ≡ Some row) × (row.live ≡ true)
some_live None h = absurd (true≢false (sym h))
some_live (Some row) h = (row, refl, h)

-- ---- what a row tells

abbrev values : Chain → Text × Text → List Text
values c p = certification_values c p (certification c p.0 p.1)

abbrev texts_of : ℕ → Entry → List Text
texts_of lasting e = certification_texts (view_of lasting (told e))

-- the end of what is small does not reach 2^64
small_end : (row made lasting : ℕ) → row ≡ made → made < 2 ^ 40 → lasting < 2 ^ 40 → min (row + lasting) (2 ^ 64 - 1) ≡ made + lasting
small_end row made lasting is small short = omega (arith, is, small, short)

module _ (c : Chain) (sound : IsSound c) (x y : Text) (r : CertRow) where
  abbrev row_in : Written CertLine → chain.CertificationRow
  row_in w = record { made = made_of w; written = w.block.number; is_live = live c x y }

  row_told : certification_left c (x, y) ≡ Some r → texts_of (params c).sig_validity ((x, y), r) ≡ values c (x, y)
  row_told e =
      elim (certification c x y) as (λ o. certification c x y ≡ o → option_map cert_entry (option_map row_in o) ≡ Some r
      → texts_of (params c).sig_validity ((x, y), r) ≡ certification_values c (x, y) o) [
        | None ↦ λ _ from. absurd (true≢false (sym (ap is_some from)))
        | Some w ↦ λ is from.
            let made : r.made ≡ made_of w = ap (λ (o : Option CertRow). option_map_or (λ (row : CertRow). row.made) o 0) (sym from) in
            let written : r.written ≡ w.block.number = ap (λ (o : Option CertRow). option_map_or (λ (row : CertRow). row.written) o 0) (sym from) in
            let ends : min (r.made + (params c).sig_validity) (2 ^ 64 - 1) ≡ end_of c w =
            small_end r.made (made_of w) (params c).sig_validity made (certification_small c sound x y w is) (params_short c sound).certifications in
            λ i. x ∷ y ∷ decimal (made i) ∷ decimal (ends i) ∷ decimal (written i) ∷ []
      ] refl e

entry_told : (c : Chain) → IsSound c → (e : Entry) → IsIn e (entries (certifications_left c)) → texts_of (params c).sig_validity e ≡ values c e.0
entry_told c sound e there =
    row_told c sound e.0.0 e.0.1 e.1 (sym (certifications-at c e.0) ∙ in_got (certifications_left c) e (turned_back e (entries (certifications_left c)) there))

-- ---- the rows of one side: those whose pairs are made of the key and of another, and live

module _ (c : Chain) (P : Entry → Bool) (pos : Entry → Text) (pair : Text → Text × Text)
    (made_of_one : (e : Entry) → P e ≡ true → (e.0 ≡ pair (pos e)) × (e.1.live ≡ true))
    (passes : (a : Text) (r : CertRow) → r.live ≡ true → P (pair a, r) ≡ true)
    (stands : (a : Text) (r : CertRow) → pos (pair a, r) ≡ a) where
  abbrev rows : Rows
  rows = certifications_left c

  abbrev kept : List Entry
  kept = filter P (entries rows)

  kept_named : (a : Text) → names (map pos kept) a ≡ live c (pair a).0 (pair a).1
  kept_named a = list_any-map (same_text a) pos kept ∙ same_truth _ _ there again
    where
      there : list_any (λ e. same_text a (pos e)) kept ≡ true → live c (pair a).0 (pair a).1 ≡ true
      there e =
          let h = any_in (λ (e : Entry). same_text a (pos e)) kept e in
          let g = in_filter P (entries rows) h.0 h.1 in
          let m = made_of_one h.0 g.1 in
          let same : h.0.0 ≡ pair a = m.0 ∙ ap pair (sym (same_text_is a (pos h.0) h.2)) in
          ap (λ (p : Text × Text). live c p.0 p.1) (sym same) ∙ sym (live-shown c h.0.0.0 h.0.0.1) ∙ ap lives (in_got rows h.0 (turned_back h.0 (entries rows) g.0)) ∙ m.1

      again : live c (pair a).0 (pair a).1 ≡ true → list_any (λ e. same_text a (pos e)) kept ≡ true
      again is =
          let row = some_live (get rows (pair a)) (live-shown c (pair a).0 (pair a).1 ∙ is) in
          in_any (λ (e : Entry). same_text a (pos e)) kept (pair a, row.0)
          (kept_in P (entries rows) (pair a, row.0) (turned (pair a, row.0) (entries rows) (got_in rows (pair a) row.0 row.1)) (passes a row.0 row.2))
          (ap (same_text a) (stands a row.0) ∙ same_text_own a)

  kept_pairs : (es : List Entry) → map (λ (e : Entry). e.0) (filter P es) ≡ map pair (map pos (filter P es))
  kept_pairs [] = refl
  kept_pairs (e ∷ es) =
      elim (P e) as (λ b. P e ≡ b → map (λ (e : Entry). e.0) (cond b (e ∷ filter P es) (filter P es)) ≡ map pair (map pos (cond b (e ∷ filter P es) (filter P es)))) [
        | true ↦ λ is. λ i. (made_of_one e is).0 i ∷ kept_pairs es i
        | false ↦ λ _. kept_pairs es
      ] refl

  side_told : IsSound c → Climbs P pos (entries rows) → (ks : List Text) → ((a : Text) → names ks a ≡ live c (pair a).0 (pair a).1)
      → map (texts_of (params c).sig_validity) kept ≡ map (values c) (map pair (in_order ks))
  side_told sound climbs ks named =
      map_on (texts_of (params c).sig_validity) (λ e. values c e.0) kept (λ e there. entry_told c sound e (in_filter P (entries rows) e there).0)
      ∙ sym (map-map (values c) (λ (e : Entry). e.0) kept)
      ∙ ap (map (values c)) (kept_pairs (entries rows) ∙ ap (map pair) (rising_is (map pos kept) ks (kept_rise P pos (entries rows) climbs) (λ a. kept_named a ∙ sym (named a))))

both : (s t : Bool) → s ≡ true → t ≡ true → (s && t) ≡ true
both s t h g = λ i. h i && g i

-- ---- both sides

module _ (c : Chain) (sound : IsSound c) (k : Text) where
  abbrev es : List Entry
  es = entries (certifications_left c)

  abbrev row_texts : Text × Text × CertRow → List Text
  row_texts row = certification_texts (view_of (params c).sig_validity row)

  received_told : map (texts_of (params c).sig_validity) (filter (live_to k) es) ≡ map (values c) (pairs_to c k)
  received_told =
      side_told c (live_to k) (λ e. e.0.0) (λ a. (a, k))
      (λ e is. (λ i. (e.0.0, sym (same_text_is k e.0.1 (and_left (same_text k e.0.1) e.1.live is)) i), and_right (same_text k e.0.1) e.1.live is))
      (λ a r alive. both (same_text k k) r.live (same_text_own k) alive) (λ a r. refl)
      sound (to_climbs k es (entries_sorted (certifications_left c))) (issuers_to c k) (issuers_named c k)

  issued_told : map (texts_of (params c).sig_validity) (filter (live_from k) es) ≡ map (values c) (pairs_from c k)
  issued_told =
      side_told c (live_from k) (λ e. e.0.1) (λ a. (k, a))
      (λ e is. (λ i. (sym (same_text_is k e.0.0 (and_left (same_text k e.0.0) e.1.live is)) i, e.0.1), and_right (same_text k e.0.0) e.1.live is))
      (λ a r alive. both (same_text k k) r.live (same_text_own k) alive) (λ a r. refl)
      sound (from_climbs k es (entries_sorted (certifications_left c))) (receivers_from c k) (receivers_named c k)

  about_told : (lasting : ℕ) → lasting ≡ (params c).sig_validity
      → map certification_texts (map (view_of lasting) (rows_about (certifications_left c) k)) ≡ certifications_told c k
  about_told lasting is =
      ap (λ l. map certification_texts (map (view_of l) (rows_about (certifications_left c) k))) is
      ∙ map-map certification_texts (view_of (params c).sig_validity) (rows_about (certifications_left c) k)
      ∙ map-append row_texts (map told (filter (live_to k) es)) (map told (filter (live_from k) es))
      ∙ (λ i. map-map row_texts told (filter (live_to k) es) i ++ map-map row_texts told (filter (live_from k) es) i)
      ∙ (λ i. received_told i ++ issued_told i)
      ∙ sym (map-append (values c) (pairs_to c k) (pairs_from c k))

  pub views_told : (lasting : ℕ) (found : List (Text × Text × CertRow)) (views : List CertificationView) → lasting ≡ (params c).sig_validity
      → found ≡ rows_about (newest empty (states certifications_left c)) k → views ≡ map (view_of lasting) found → map certification_texts views ≡ certifications_told c k
  views_told lasting found views lasts are shown =
      ap (map certification_texts) (shown ∙ ap (map (view_of lasting)) (are ∙ ap (λ (m : Rows). rows_about m k) (newest-left empty certifications_left refl c)))
      ∙ about_told lasting lasts

-- ---- how long a certification lasts

pub validity_told : (c : Chain) (o : Option First) → o ≡ first_at c tt → option_map_or (λ (first : First). first.params.sig_validity) o 0 ≡ (params c).sig_validity
validity_told c o e = ap (λ (o : Option First). option_map_or (λ (first : First). first.params.sig_validity) o 0) e ∙ first_told c
  where
    first_told : (c : Chain) → option_map_or (λ (first : First). first.params.sig_validity) (first_at c tt) 0 ≡ (params c).sig_validity
    first_told [] = refl
    first_told (b ∷ d) = refl

-- ---- who has an identity

module _ (c : Chain) (k : Text) {X : Type 0} (value : X) where
  pub nobody_told : None ≡ identity_left c k → None ≡ option_map (λ (_ : Written IdentityLine). value) (identity c k)
  nobody_told e =
      elim (identity c k) as (λ o. None ≡ option_map identity_entry (option_map (identity_with (member c k)) o) → None ≡ option_map (λ (_ : Written IdentityLine). value) o) [
        | None ↦ λ _. refl
        | Some w ↦ λ from. absurd (true≢false (ap is_some (sym from)))
      ] e

  pub somebody_told : (row : IdentityRow) → Some row ≡ identity_left c k → Some value ≡ option_map (λ (_ : Written IdentityLine). value) (identity c k)
  somebody_told row e =
      elim (identity c k) as (λ o. Some row ≡ option_map identity_entry (option_map (identity_with (member c k)) o) → Some value ≡ option_map (λ (_ : Written IdentityLine). value) o) [
        | None ↦ λ from. absurd (true≢false (ap is_some from))
        | Some w ↦ λ _. refl
      ] e
