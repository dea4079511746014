-- What the map of documents that wait tells, and what adding and removing leave.
use Rattle.std.proofs.Common.{◌≡◌, ◌<◌, ◌≤◌, ◌||◌, Bool, true, false, not, cond, List, [], ◌∷◌, ◌++◌, map, filter, length, Option, Some, None, is_some, refl, sym, ap, subst, ◌∙◌, true≢false, arith}
use Rattle.std.proofs.lemmas.List.{length-map, length-append}
use Rattle.std.proofs.lemmas.List.Folds.{list_any-append}
use Rattle.std.specs.List.{AllByRecursion}
use Rattle.std.specs.Map.{lookup}
use Rattle.indexmap.specs.IndexMap.{insert_entry}
use Rattle.indexmap.proofs.MapLemmas.{absent_from_lookup, insert_entry-absent}
use Rattle.dubp_atoms.specs.Same.{Text, same_text}
use Rattle.dubp_docs.specs.Spelling.{IsDoc}
use Rattle.dubp_docs.specs.declared.doc.Doc.{Doc}
use Rattle.dubp_lists.proofs.InOrder.{same_text_is, same_text_own}
use Rattle.dubp_pool.specs.Pools.{AreApart, AreKept, ArePending, Entries, doc_hash, documents_in, differs, entry_of, has_hash, is_pending, most_pending, without}

-- ---- words

first_of_two : (a b : Bool) → (a || b) ≡ false → a ≡ false
first_of_two true b e = absurd (true≢false e)
first_of_two false b e = refl

rest_of : (a b : Bool) → (a || b) ≡ false → b ≡ false
rest_of true b e = absurd (true≢false e)
rest_of false b e = e

neither : (a b : Bool) → a ≡ false → b ≡ false → (a || b) ≡ false
neither true b e f = absurd (true≢false e)
neither false b e f = f

none_found : {X : Type 0} (o : Option X) → is_some o ≡ false → o ≡ None
none_found None e = refl
none_found (Some x) e = absurd (true≢false e)

map-append : {A B : Type 0} (f : A → B) (xs ys : List A) → map f (xs ++ ys) ≡ map f xs ++ map f ys
map-append f [] ys = refl
map-append f (x ∷ xs) ys = ap (λ l. f x ∷ l) (map-append f xs ys)

same_turned : (x y : Text) → same_text x y ≡ same_text y x
same_turned x y =
    elim (same_text x y) as (λ r. same_text x y ≡ r → r ≡ same_text y x) [
      | true ↦ λ e. sym (subst (λ (z : Text). same_text z x ≡ true) (same_text_is x y e) (same_text_own x))
      | false ↦ λ e.
          elim (same_text y x) as (λ r. same_text y x ≡ r → false ≡ r) [
            | true ↦ λ f. absurd (true≢false (sym (subst (λ (z : Text). same_text z y ≡ true) (same_text_is y x f) (same_text_own y)) ∙ e))
            | false ↦ λ f. refl
          ] refl
    ] refl

All-append : (P : Doc → Type 0) (xs ys : List Doc) → AllByRecursion P xs → AllByRecursion P ys → AllByRecursion P (xs ++ ys)
All-append P [] ys p q = q
All-append P (x ∷ xs) ys p q = (p.0, All-append P xs ys p.1 q)

All-filter : (P : Doc → Type 0) (test : Doc → Bool) (xs : List Doc) → AllByRecursion P xs → AllByRecursion P (filter test xs)
All-filter P test [] p = tt
All-filter P test (x ∷ xs) p =
    elim (test x) as (λ r. AllByRecursion P (cond r (x ∷ filter test xs) (filter test xs))) [
      | true ↦ (p.0, All-filter P test xs p.1)
      | false ↦ All-filter P test xs p.1
    ]

length-filter_le : (test : Doc → Bool) (xs : List Doc) → length (filter test xs) ≤ length xs
length-filter_le test [] = omega arith
length-filter_le test (x ∷ xs) =
    let less = length-filter_le test xs in
    elim (test x) as (λ r. length (cond r (x ∷ filter test xs) (filter test xs)) ≤ length (x ∷ xs)) [ true ↦ omega arith | false ↦ omega arith ]

-- ---- apart

fewer_pending : (hash : Text) (test : Doc → Bool) (xs : List Doc) → is_pending xs hash ≡ false → is_pending (filter test xs) hash ≡ false
fewer_pending hash test [] e = refl
fewer_pending hash test (x ∷ xs) e =
    let rest = fewer_pending hash test xs (rest_of (has_hash hash x) _ e) in
    elim (test x) as (λ r. is_pending (cond r (x ∷ filter test xs) (filter test xs)) hash ≡ false) [
      | true ↦ neither (has_hash hash x) _ (first_of_two (has_hash hash x) _ e) rest
      | false ↦ rest
    ]

apart_filter : (test : Doc → Bool) (xs : List Doc) → AreApart xs → AreApart (filter test xs)
apart_filter test [] a = tt
apart_filter test (x ∷ xs) a =
    elim (test x) as (λ r. AreApart (cond r (x ∷ filter test xs) (filter test xs))) [
      | true ↦ (fewer_pending (doc_hash x) test xs a.0, apart_filter test xs a.1)
      | false ↦ apart_filter test xs a.1
    ]

apart_with : (xs : List Doc) (d : Doc) → AreApart xs → is_pending xs (doc_hash d) ≡ false → AreApart (xs ++ d ∷ [])
apart_with [] d a e = (refl, tt)
apart_with (x ∷ xs) d a e = (
  list_any-append (has_hash (doc_hash x)) xs (d ∷ [])
      ∙ neither (is_pending xs (doc_hash x)) _ a.0 (neither (has_hash (doc_hash x) d) false (same_turned (doc_hash x) (doc_hash d) ∙ first_of_two (has_hash (doc_hash d) x) _ e) refl),
  apart_with xs d a.1 (rest_of (has_hash (doc_hash d) x) _ e),
)

-- ---- the map

found_in : (hash : Text) (xs : List Doc) → is_some (lookup (same_text hash) (map entry_of xs)) ≡ is_pending xs hash
found_in hash [] = refl
found_in hash (x ∷ xs) =
    elim (same_text hash (doc_hash x)) as (λ r. is_some (cond r (Some x) (lookup (same_text hash) (map entry_of xs))) ≡ (r || is_pending xs hash)) [
      | true ↦ refl
      | false ↦ found_in hash xs
    ]

pub is_found : (entries : Entries) (hash : Text) → AreKept entries → is_some (lookup (same_text hash) entries) ≡ is_pending (documents_in entries) hash
is_found entries hash kept = ap (λ es. is_some (lookup (same_text hash) es)) kept.whole ∙ found_in hash (documents_in entries)

pub held_is : (entries : Entries) → length entries ≡ length (documents_in entries)
held_is entries = sym (length-map entries (λ e. e.1))

documents_of : (xs : List Doc) → documents_in (map entry_of xs) ≡ xs
documents_of [] = refl
documents_of (x ∷ xs) = ap (λ l. x ∷ l) (documents_of xs)

-- entries of documents that may wait
kept_of : (xs : List Doc) (entries : Entries) → entries ≡ map entry_of xs → ArePending xs → AreKept entries
kept_of xs entries e pending =
    let view : documents_in entries ≡ xs = ap documents_in e ∙ documents_of xs in
    record { whole = e ∙ ap (map entry_of) (sym view); pending = subst ArePending (sym view) pending }

-- one more
pub record IsAdded (next : Entries) (old : List Doc) (d : Doc) : Type 0 where
  pub kept : AreKept next
  pub view : documents_in next ≡ old ++ d ∷ []

pub added : (entries next : Entries) (old : List Doc) (hash : Text) (d : Doc) → hash ≡ doc_hash d → IsDoc d → AreKept entries → documents_in entries ≡ old
    → is_some (lookup (same_text hash) entries) ≡ false → length old < most_pending → next ≡ insert_entry same_text entries hash d → IsAdded next old d
added entries next old hash d same is kept view new few e =
    let docs = documents_in entries in
    let absent = none_found (lookup (same_text hash) entries) new in
    let parts : next ≡ map entry_of (docs ++ d ∷ []) =
    e ∙ insert_entry-absent same_text hash d entries (absent_from_lookup (same_text hash) entries absent)
    ∙ ap (λ es. es ++ (hash, d) ∷ []) kept.whole
    ∙ ap (λ (h : Text). map entry_of docs ++ (h, d) ∷ []) same
    ∙ sym (map-append entry_of docs (d ∷ [])) in
    let apart : is_pending docs (doc_hash d) ≡ false = ap (is_pending docs) (sym same) ∙ sym (is_found entries hash kept) ∙ new in
    let more = length-append docs (d ∷ []) in
    let so_few : length docs < most_pending = subst (λ (xs : List Doc). length xs < most_pending) (sym view) few in
    let pending : ArePending (docs ++ d ∷ []) = record {
      each = All-append IsDoc docs (d ∷ []) kept.pending.each (is, tt);
      apart = apart_with docs d kept.pending.apart apart;
      few = omega arith;
    } in
    record { kept = kept_of (docs ++ d ∷ []) next parts pending; view = ap documents_in parts ∙ documents_of (docs ++ d ∷ []) ∙ ap (λ (xs : List Doc). xs ++ d ∷ []) view }

-- one less
filter_entries : (hash : Text) (xs : List Doc) → filter (λ e. differs hash e.0) (map entry_of xs) ≡ map entry_of (without hash xs)
filter_entries hash [] = refl
filter_entries hash (x ∷ xs) =
    ap (λ r. cond (not r) (entry_of x ∷ filter (λ e. differs hash e.0) (map entry_of xs)) (filter (λ e. differs hash e.0) (map entry_of xs))) (same_turned (doc_hash x) hash)
    ∙ (elim (same_text hash (doc_hash x)) as (λ r. cond (not r) (entry_of x ∷ filter (λ e. differs hash e.0) (map entry_of xs)) (filter (λ e. differs hash e.0) (map entry_of xs)) ≡ map entry_of (cond (not r) (x ∷ without hash xs) (without hash xs))) [
      | true ↦ filter_entries hash xs
      | false ↦ ap (λ l. entry_of x ∷ l) (filter_entries hash xs)
    ])

pub record IsRemoved (next : Entries) (old : List Doc) (hash : Text) : Type 0 where
  pub kept : AreKept next
  pub view : documents_in next ≡ without hash old

pub removed : (entries next : Entries) (old : List Doc) (hash : Text) → AreKept entries → documents_in entries ≡ old → next ≡ filter (λ e. differs hash e.0) entries → IsRemoved next old hash
removed entries next old hash kept view e =
    let docs = documents_in entries in
    let parts : next ≡ map entry_of (without hash docs) = e ∙ ap (filter (λ e. differs hash e.0)) kept.whole ∙ filter_entries hash docs in
    let less = length-filter_le (λ d. not (has_hash hash d)) docs in
    let few = kept.pending.few in
    let pending : ArePending (without hash docs) = record {
      each = All-filter IsDoc (λ d. not (has_hash hash d)) docs kept.pending.each;
      apart = apart_filter (λ d. not (has_hash hash d)) docs kept.pending.apart;
      few = omega arith;
    } in
    record { kept = kept_of (without hash docs) next parts pending; view = ap documents_in parts ∙ documents_of (without hash docs) ∙ ap (without hash) view }
