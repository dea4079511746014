-- Names of sources by the numbers of their origins: two sources whose origins have numbers are one where their names are, a name leads
-- back to its source, and an origin more changes none of them.
use Rattle.std.proofs.Common.{◌≡◌, ℕ, suc, ◌+◌, ◌==◌, ◌||◌, true, false, cond, not, filter, List, [], ◌∷◌, ◌++◌, Option, Some, None, option_map, slice_get, refl, ap, sym, ◌∙◌, subst, true≢false, arith}
use Rattle.std.specs.Prelude.{find, unwrap_or}
use Rattle.std.specs.List.{list_any, position_or_len}
use Rattle.std.proofs.lemmas.Bool.Decides.{Decides-eqb}
use Rattle.std.proofs.lemmas.Option.{none-some}
use Rattle.dubp_atoms.specs.Same.{Text, same_text}
use Rattle.dubp_cond.specs.declared.source.SourceId.{SourceId}
use Rattle.dubp_cond.specs.declared.source.SourceId.TheVariants.{D, T}
use Rattle.dubp_sindex.specs.declared.origins.Name.{Name}
use Rattle.dubp_sindex.specs.declared.origins.Name.TheVariants.{Dividend, Output}
use Rattle.dubp_sindex.specs.Numbering.{number_of, with_text}
use Rattle.dubp_sindex.specs.Origins.{OriginTexts, name_in, source_in, is_known, AreKnown, name_of, same_name, Keeps, has_name}
use Rattle.dubp_sindex.specs.Rows.{Entry, same_source, is_named, of_account, is_before, with_row, without}
use Rattle.dubp_sindex.specs.Derived.{place_at, place_of, before, after, linked, is_at, linked_at}
use Rattle.dubp_sindex.proofs.Elements.{and_left, and_right, is_false, in_all, none_in, all_more, all_append, all-filter, found_in}
use Rattle.dubp_sindex.proofs.Sources.{same_text_is, same_source_is, same_source_own}
use Rattle.dubp_sindex.proofs.Texts.{text_there, number_there, any_more, place_stays}

-- ---- texts and their numbers

one_more : (n : ℕ) → 1 + n ≡ suc n
one_more n = omega arith

text_at : (t : Text) (xs : List Text) → list_any (same_text t) xs ≡ true → slice_get xs (position_or_len (same_text t) xs) ≡ Some t
text_at t [] e = absurd (true≢false (sym e))
text_at t (x ∷ xs) e =
    elim (same_text t x) as (λ r. same_text t x ≡ r → (r || list_any (same_text t) xs) ≡ true → slice_get (x ∷ xs) (cond (not r) (1 + position_or_len (same_text t) xs) 0) ≡ Some t) [
      | true ↦ λ is _. ap Some (sym (same_text_is t x is))
      | false ↦ λ _ later. ap (slice_get (x ∷ xs)) (one_more (position_or_len (same_text t) xs)) ∙ text_at t xs later
    ] refl e

text_kept : (xs : List Text) (u t : Text) → list_any (same_text t) xs ≡ true → (list_any (same_text t) (with_text xs u) ≡ true) × (position_or_len (same_text t) (with_text xs u) ≡ position_or_len (same_text t) xs)
text_kept xs u t has =
    elim (list_any (same_text u) xs) as (λ r. (list_any (same_text t) (cond r xs (xs ++ u ∷ [])) ≡ true) × (position_or_len (same_text t) (cond r xs (xs ++ u ∷ [])) ≡ position_or_len (same_text t) xs)) [
      | true ↦ (has, refl)
      | false ↦ (any_more t xs (u ∷ []) has, place_stays t xs (u ∷ []) has)
    ]

-- ---- names

pub same_name_is : (m n : Name) → same_name m n ≡ true → m ≡ n
same_name_is (Dividend k b) (Dividend k' b') e =
    let p = (Decides-eqb k k').0 (and_left (k == k') (b == b') e) in
    let q = (Decides-eqb b b').0 (and_right (k == k') (b == b') e) in
    λ i. Dividend (p i) (q i)
same_name_is (Output k b) (Output k' b') e =
    let p = (Decides-eqb k k').0 (and_left (k == k') (b == b') e) in
    let q = (Decides-eqb b b').0 (and_right (k == k') (b == b') e) in
    λ i. Output (p i) (q i)
same_name_is (Dividend k b) (Output k' b') e = absurd (true≢false (sym e))
same_name_is (Output k b) (Dividend k' b') e = absurd (true≢false (sym e))

pub same_name_own : (n : Name) → same_name n n ≡ true
same_name_own (Dividend k b) = rw ((Decides-eqb k k).1 refl, (Decides-eqb b b).1 refl)
same_name_own (Output k b) = rw ((Decides-eqb k k).1 refl, (Decides-eqb b b).1 refl)

-- a name leads back to its source
pub source_is : (o : OriginTexts) (id : SourceId) → is_known o id ≡ true → source_in o (name_of o id) ≡ Some id
source_is o (D key block) known = ap (option_map (λ k. D k block)) (text_at key o.keys known)
source_is o (T tx index) known = ap (option_map (λ t. T t index)) (text_at tx o.hashes known)

pub one_name : (o : OriginTexts) (a b : SourceId) → is_known o a ≡ true → is_known o b ≡ true → name_of o a ≡ name_of o b → a ≡ b
one_name o a b known known' same = ap (λ s. unwrap_or s a) (sym (source_is o a known) ∙ ap (source_in o) same ∙ source_is o b known')

pub names_agree : (o : OriginTexts) (a b : SourceId) → is_known o a ≡ true → is_known o b ≡ true → same_name (name_of o a) (name_of o b) ≡ same_source a b
names_agree o a b known known' =
    elim (same_source a b) as (λ r. same_source a b ≡ r → same_name (name_of o a) (name_of o b) ≡ r) [
      | true ↦ λ is. subst (λ id. same_name (name_of o a) (name_of o id) ≡ true) (same_source_is a b is) (same_name_own (name_of o a))
      | false ↦ λ off. is_false (same_name (name_of o a) (name_of o b)) (λ same.
          let one : a ≡ b = one_name o a b known known' (same_name_is (name_of o a) (name_of o b) same) in
          true≢false (sym (subst (λ id. same_source a id ≡ true) one (same_source_own a)) ∙ off))
    ] refl

-- what is found of a source
pub known_by : (o : OriginTexts) (id : SourceId) (name : Name) → name_in o id ≡ Some name → (is_known o id ≡ true) × (name ≡ name_of o id)
known_by o (D key block) name is = by (number_of o.keys key) refl is
  where
    by : (found : Option ℕ) → number_of o.keys key ≡ found → option_map (λ n. Dividend n block) found ≡ Some name → (list_any (same_text key) o.keys ≡ true) × (name ≡ Dividend (position_or_len (same_text key) o.keys) block)
    by None e is = absurd (none-some name is)
    by (Some n) e is =
        let there = text_there key o.keys n e in
        let at : n ≡ position_or_len (same_text key) o.keys = ap (λ s. unwrap_or s n) (sym e ∙ number_there key o.keys there) in
        (there, ap (λ s. unwrap_or s name) (sym is) ∙ ap (λ m. Dividend m block) at)
known_by o (T tx index) name is = by (number_of o.hashes tx) refl is
  where
    by : (found : Option ℕ) → number_of o.hashes tx ≡ found → option_map (λ n. Output n index) found ≡ Some name → (list_any (same_text tx) o.hashes ≡ true) × (name ≡ Output (position_or_len (same_text tx) o.hashes) index)
    by None e is = absurd (none-some name is)
    by (Some n) e is =
        let there = text_there tx o.hashes n e in
        let at : n ≡ position_or_len (same_text tx) o.hashes = ap (λ s. unwrap_or s n) (sym e ∙ number_there tx o.hashes there) in
        (there, ap (λ s. unwrap_or s name) (sym is) ∙ ap (λ m. Output m index) at)

pub unknown_by : (o : OriginTexts) (id : SourceId) → name_in o id ≡ None → is_known o id ≡ false
unknown_by o (D key block) none = is_false (list_any (same_text key) o.keys) (λ there. none-some _ (sym none ∙ ap (option_map (λ n. Dividend n block)) (number_there key o.keys there)))
unknown_by o (T tx index) none = is_false (list_any (same_text tx) o.hashes) (λ there. none-some _ (sym none ∙ ap (option_map (λ n. Output n index)) (number_there tx o.hashes there)))

-- ---- rows

-- to look for a name is to look for its source
pub found_by_name : (o : OriginTexts) (id : SourceId) → is_known o id ≡ true → (rows : List Entry) → AreKnown o rows → find (has_name o (name_of o id)) rows ≡ find (is_named id) rows
found_by_name o id known [] all = refl
found_by_name o id known (x ∷ rows) all = λ i. cond (names_agree o id x.0 known all.0 i) (Some x) (found_by_name o id known rows all.1 i)

pub place_by_name : (o : OriginTexts) (id : SourceId) → is_known o id ≡ true → (rows : List Entry) → AreKnown o rows → place_at o (name_of o id) rows ≡ option_map place_of (find (is_named id) rows)
place_by_name o id known rows all = ap (option_map place_of) (found_by_name o id known rows all)

-- a source whose origin has no number has no row
pub none_unknown : (o : OriginTexts) (id : SourceId) → is_known o id ≡ false → (rows : List Entry) → AreKnown o rows → list_any (is_named id) rows ≡ false
none_unknown o id unknown rows all =
    none_in (is_named id) rows (λ x there. is_false (is_named id x) (λ named.
    let known : is_known o x.0 ≡ true = in_all (λ (e : Entry). is_known o e.0 ≡ true) rows all x there in
    true≢false (sym (subst (λ name. is_known o name ≡ true) (sym (same_source_is id x.0 named)) known) ∙ unknown)))

-- ---- more origins

module _ (keys hashes : List Text) where
  pub same_keys : (keys' : List Text) → keys' ≡ keys → Keeps (record { keys = keys; hashes = hashes }) (record { keys = keys'; hashes = hashes })
  same_keys keys' same (D key block) known = (subst (λ l. list_any (same_text key) l ≡ true) (sym same) known, ap (λ l. Dividend (position_or_len (same_text key) l) block) same)
  same_keys keys' same (T tx index) known = (known, refl)

  pub more_keys : (keys' : List Text) (key : Text) → keys' ≡ with_text keys key → Keeps (record { keys = keys; hashes = hashes }) (record { keys = keys'; hashes = hashes })
  more_keys keys' added is (D key block) known =
      let k = text_kept keys added key known in
      (subst (λ l. list_any (same_text key) l ≡ true) (sym is) k.0, ap (λ l. Dividend (position_or_len (same_text key) l) block) is ∙ ap (λ n. Dividend n block) k.1)
  more_keys keys' added is (T tx index) known = (known, refl)

  pub same_hashes : (hashes' : List Text) → hashes' ≡ hashes → Keeps (record { keys = keys; hashes = hashes }) (record { keys = keys; hashes = hashes' })
  same_hashes hashes' same (D key block) known = (known, refl)
  same_hashes hashes' same (T tx index) known = (subst (λ l. list_any (same_text tx) l ≡ true) (sym same) known, ap (λ l. Output (position_or_len (same_text tx) l) index) same)

  pub more_hashes : (hashes' : List Text) (tx : Text) → hashes' ≡ with_text hashes tx → Keeps (record { keys = keys; hashes = hashes }) (record { keys = keys; hashes = hashes' })
  more_hashes hashes' added is (D key block) known = (known, refl)
  more_hashes hashes' added is (T tx index) known =
      let k = text_kept hashes added tx known in
      (subst (λ l. list_any (same_text tx) l ≡ true) (sym is) k.0, ap (λ l. Output (position_or_len (same_text tx) l) index) is ∙ ap (λ n. Output n index) k.1)

module _ (o o' : OriginTexts) (keeps : Keeps o o') where
  pub known_kept : (rows : List Entry) → AreKnown o rows → AreKnown o' rows
  known_kept rows all = all_more (λ (e : Entry). is_known o e.0 ≡ true) (λ (e : Entry). is_known o' e.0 ≡ true) (λ e known. (keeps e.0 known).0) rows all

  found_kept : (x : Name) (rows : List Entry) → AreKnown o rows → find (has_name o x) rows ≡ find (has_name o' x) rows
  found_kept x [] all = refl
  found_kept x (e ∷ rows) all = λ i. cond (same_name x (sym (keeps e.0 all.0).1 i)) (Some e) (found_kept x rows all.1 i)

  pub place_kept : (x : Name) (rows : List Entry) → AreKnown o rows → place_at o x rows ≡ place_at o' x rows
  place_kept x rows all = ap (option_map place_of) (found_kept x rows all)

  pub linked_kept : (q : ℕ) (rows : List Entry) → AreKnown o rows → linked_at o q rows ≡ linked_at o' q rows
  linked_kept q rows all = by (find (is_at q) rows) refl
    where
      by : (found : Option Entry) → find (is_at q) rows ≡ found → option_map (linked o rows) found ≡ option_map (linked o' rows) found
      by None e = refl
      by (Some x) e =
          let known : is_known o x.0 ≡ true = in_all (λ (y : Entry). is_known o y.0 ≡ true) rows all x (found_in (is_at q) rows x e).0 in
          λ i. Some (record {
            name = sym (keeps x.0 known).1 i;
            row = x.1;
            before = before x.1.order (of_account x.1.account rows);
            after = after x.1.order (of_account x.1.account rows);
          })

-- the rows with one whose origin has a number, behind the others or between them, and without one
module _ (o : OriginTexts) where
  pub known_behind : (e : Entry) (rows : List Entry) → is_known o e.0 ≡ true → AreKnown o rows → AreKnown o (rows ++ e ∷ [])
  known_behind e rows known all = all_append (λ (x : Entry). is_known o x.0 ≡ true) rows (e ∷ []) all (known, tt)

  pub known_between : (e : Entry) (rows : List Entry) → is_known o e.0 ≡ true → AreKnown o rows → AreKnown o (with_row e rows)
  known_between e rows known all =
      all_append (λ (x : Entry). is_known o x.0 ≡ true) (filter (is_before e) rows) (e ∷ filter (λ x. not (is_before e x)) rows)
      (all-filter (λ (x : Entry). is_known o x.0 ≡ true) (is_before e) rows all)
      (known, all-filter (λ (x : Entry). is_known o x.0 ≡ true) (λ x. not (is_before e x)) rows all)

  pub known_left : (id : SourceId) (rows : List Entry) → AreKnown o rows → AreKnown o (without id rows)
  known_left id rows all = all-filter (λ (x : Entry). is_known o x.0 ≡ true) (λ x. not (is_named id x)) rows all
