-- A run of documents of the pool, one document longer, and taken whole.
use Rattle.std.proofs.Common.{◌≡◌, ℕ, zero, suc, ◌+◌, ◌-◌, ◌<◌, ◌≤◌, Bool, true, false, not, cond, List, [], ◌∷◌, ◌++◌, length, map, take, drop, append-nil, Some, None, refl, sym, ap, subst, ◌∙◌, length-append, arith}
use Rattle.std.specs.Prelude.{slice_index_or}
use Rattle.std.specs.List.{AllByRecursion, list_any, slice_get}
use Rattle.std.proofs.lemmas.List.{take_more, take-append-drop}
use Rattle.std.proofs.lemmas.List.Elements.{filter-append}
use Rattle.std.proofs.lemmas.List.Folds.{list_any-append}
use Rattle.std.proofs.lemmas.Option.{get_or_from_slice_get, slice_get_within}
use Rattle.dubp_docs.specs.declared.doc.Doc.{Doc}
use Rattle.dubp_docs.specs.declared.doc.Doc.TheVariants.{Transaction}
use Rattle.dubp_pool.specs.Pools.{AreApart, doc_hash, has_hash}
use Rattle.dubp_forging.specs.Forged.{Forging, IsTried, Passes, is_in}
use Rattle.dubp_forging_laws.specs.Laws.{IsTransaction}
use Rattle.dubp_forge.specs.Runs.{TakesRun, is_transaction, outside, run_of}
use Rattle.dubp_forge.specs.Steps.{Stands, docs_of}
use Rattle.dubp_forge.specs.declared.draft.Draft.{Draft}
use Rattle.dubp_forge.proofs.Passing.{PassesOn, rest_at}
use Rattle.dubp_forge.proofs.Places.{length-docs_at}
use Rattle.dubp_forging_laws.proofs.FewerTried.{tried_fewer}
use Rattle.dubp_forge.proofs.TakenRuns.{passes_run}
use Rattle.dubp_forge.proofs.Marks.{first_of_two, mark_at, same_turned, second_of_two, or_false}

-- ---- places of a list

slice_get-drop : {A : Type 0} (xs : List A) (p n : ℕ) → slice_get (drop p xs) n ≡ slice_get xs (p + n)
slice_get-drop xs zero n = let e : n ≡ zero + n = omega arith in ap (slice_get xs) e
slice_get-drop [] (suc p) n = refl
slice_get-drop (x ∷ xs) (suc p) n = let e : suc (p + n) ≡ suc p + n = omega arith in slice_get-drop xs p n ∙ ap (slice_get (x ∷ xs)) e

pub slice_more : {A : Type 0} (xs : List A) (p e : ℕ) (x : A) → p ≤ e → slice_get xs e ≡ Some x → take (e + 1 - p) (drop p xs) ≡ take (e - p) (drop p xs) ++ x ∷ []
slice_more xs p e x le is =
    let n = e - p in
    let whole : p + n ≡ e = omega (arith, le) in
    let longer : e + 1 - p ≡ n + 1 = omega (arith, le) in
    let at : slice_get (drop p xs) n ≡ Some x = slice_get-drop xs p n ∙ ap (slice_get xs) whole ∙ is in
    ap (λ m. take m (drop p xs)) longer ∙ take_more (drop p xs) n x (slice_get_within (drop p xs) n x at)
    ∙ ap (λ y. take n (drop p xs) ++ y ∷ []) (get_or_from_slice_get (drop p xs) n x x at)

drop_none : {A : Type 0} (n : ℕ) → drop {A = A} n [] ≡ []
drop_none zero = refl
drop_none (suc n) = refl

drop-drop : {A : Type 0} (xs : List A) (p n : ℕ) → drop n (drop p xs) ≡ drop (p + n) xs
drop-drop xs zero n = let e : n ≡ zero + n = omega arith in ap (λ m. drop m xs) e
drop-drop [] (suc p) n = drop_none n ∙ sym (drop_none (suc p + n))
drop-drop (x ∷ xs) (suc p) n = let e : suc (p + n) ≡ suc p + n = omega arith in drop-drop xs p n ∙ ap (λ m. drop m (x ∷ xs)) e

pub slice_rest : {A : Type 0} (xs : List A) (p e : ℕ) → p ≤ e → take (e - p) (drop p xs) ++ drop e xs ≡ drop p xs
slice_rest xs p e le =
    let whole : e ≡ p + (e - p) = omega (arith, le) in
    ap (λ r. take (e - p) (drop p xs) ++ r) (ap (λ m. drop m xs) whole ∙ sym (drop-drop xs p (e - p)))
    ∙ take-append-drop (e - p) (drop p xs)

-- ---- apart

apart_drop : (p : ℕ) (xs : List Doc) → AreApart xs → AreApart (drop p xs)
apart_drop zero xs a = a
apart_drop (suc p) [] a = tt
apart_drop (suc p) (x ∷ xs) a = apart_drop p xs a.1

any_take : (q : Doc → Bool) (n : ℕ) (xs : List Doc) → list_any q xs ≡ false → list_any q (take n xs) ≡ false
any_take q zero xs e = refl
any_take q (suc n) [] e = refl
any_take q (suc n) (x ∷ xs) e = rw (first_of_two (q x) _ e) (any_take q n xs (second_of_two (q x) _ e))

apart_take : (n : ℕ) (xs : List Doc) → AreApart xs → AreApart (take n xs)
apart_take zero xs a = tt
apart_take (suc n) [] a = tt
apart_take (suc n) (x ∷ xs) a = (any_take (has_hash (doc_hash x)) n xs a.0, apart_take n xs a.1)

pub apart_slice : (p n : ℕ) (xs : List Doc) → AreApart xs → AreApart (take n (drop p xs))
apart_slice p n xs a = apart_take n (drop p xs) (apart_drop p xs a)

-- a document behind others of a pool is none of them
none_before : (xs : List Doc) (n : ℕ) (d : Doc) → AreApart xs → slice_get xs n ≡ Some d → list_any (has_hash (doc_hash d)) (take n xs) ≡ false
none_before [] n d a is = absurd cc
none_before (x ∷ xs) zero d a is = refl
none_before (x ∷ xs) (suc n) d a is =
    rw (same_turned (doc_hash d) (doc_hash x) ∙ none_at xs n d (doc_hash x) a.0 is) (none_before xs n d a.1 is)
  where
    none_at : (xs : List Doc) (n : ℕ) (d : Doc) (hash : List ℕ) → list_any (has_hash hash) xs ≡ false → slice_get xs n ≡ Some d → has_hash hash d ≡ false
    none_at [] n d hash e is = absurd cc
    none_at (y ∷ ys) zero d hash e is = let same : y ≡ d = cc in subst (λ z. has_hash hash z ≡ false) same (first_of_two (has_hash hash y) _ e)
    none_at (y ∷ ys) (suc n) d hash e is = none_at ys n d hash (second_of_two (has_hash hash y) _ e) is

-- ---- what is outside of a draft

-- documents of others do not put a document into the draft
in_same : (docs rest : List Doc) (d : Doc) → list_any (has_hash (doc_hash d)) rest ≡ false → is_in (docs ++ outside docs rest) d ≡ is_in docs d
in_same docs rest d e =
    list_any-append (has_hash (doc_hash d)) docs (outside docs rest) ∙ or_false (is_in docs d) _ (none_outside rest e)
  where
    none_outside : (rest : List Doc) → list_any (has_hash (doc_hash d)) rest ≡ false → list_any (has_hash (doc_hash d)) (outside docs rest) ≡ false
    none_outside [] e = refl
    none_outside (x ∷ rest) e = by_place (is_in docs x) (first_of_two (has_hash (doc_hash d) x) _ e) (none_outside rest (second_of_two (has_hash (doc_hash d) x) _ e))
      where
        by_place : (b : Bool) → has_hash (doc_hash d) x ≡ false → list_any (has_hash (doc_hash d)) (outside docs rest) ≡ false → list_any (has_hash (doc_hash d)) (cond (not b) (x ∷ outside docs rest) (outside docs rest)) ≡ false
        by_place true f g = g
        by_place false f g = rw f g

pub run_more : (docs pool : List Doc) (p e : ℕ) → p ≤ e → (d : Doc) → slice_get pool e ≡ Some d
    → outside docs (take (e + 1 - p) (drop p pool)) ≡ outside docs (take (e - p) (drop p pool)) ++ outside docs (d ∷ [])
run_more docs pool p e le d is = ap (outside docs) (slice_more pool p e d le is) ∙ filter-append (λ x. not (is_in docs x)) (take (e - p) (drop p pool)) (d ∷ [])

module _ (docs pool : List Doc) (apart : AreApart pool) (p e : ℕ) (le : p ≤ e) (d : Doc) (is : slice_get pool e ≡ Some d) where
  abbrev run : ℕ → List Doc
  run end = outside docs (take (end - p) (drop p pool))

  -- whether a document is in the draft with the run before it
  pub in_run : is_in (docs ++ run e) d ≡ is_in docs d
  in_run =
      let whole : p + (e - p) ≡ e = omega (arith, le) in
      in_same docs (take (e - p) (drop p pool)) d (none_before (drop p pool) (e - p) d (apart_drop p pool apart) (slice_get-drop pool p (e - p) ∙ ap (slice_get pool) whole ∙ is))

  pub run_past : is_in docs d ≡ true → run (e + 1) ≡ run e
  run_past in' = run_more docs pool p e le d is ∙ ap (λ b. run e ++ cond (not b) (d ∷ []) []) in' ∙ append-nil (run e)

  pub run_grows : is_in docs d ≡ false → run (e + 1) ≡ run e ++ d ∷ []
  run_grows out = run_more docs pool p e le d is ∙ ap (λ b. run e ++ cond (not b) (d ∷ []) []) out

-- ---- transactions

pub is_one : (d : Doc) → is_transaction d ≡ true → IsTransaction d
is_one (Transaction d) e = tt
is_one d e = absurd cc

pub all_more : (xs : List Doc) (d : Doc) → AllByRecursion IsTransaction xs → IsTransaction d → AllByRecursion IsTransaction (xs ++ d ∷ [])
all_more [] d all is = (is, tt)
all_more (x ∷ xs) d all is = (all.0, all_more xs d all.1 is)

-- a run without a document
pub run_none : (docs pool : List Doc) (p : ℕ) → outside docs (take (p - p) (drop p pool)) ≡ []
run_none docs pool p =
    let none : p - p ≡ 0 = omega arith in
    ap (λ n. outside docs (take n (drop p pool))) none

pub all_both : (xs ys : List Doc) → AllByRecursion IsTransaction xs → AllByRecursion IsTransaction ys → AllByRecursion IsTransaction (xs ++ ys)
all_both [] ys a b = b
all_both (x ∷ xs) ys a b = (a.0, all_both xs ys a.1 b)

-- there is a document at a place of the pool
pub there_at : (xs : List Doc) (n : ℕ) → n < length xs → (d : Doc) × (slice_get xs n ≡ Some d)
there_at [] n lt = absurd (omega arith)
there_at (x ∷ xs) zero lt = (x, refl)
there_at (x ∷ xs) (suc n) lt = there_at xs n (omega arith)

-- whether a document is in the draft is what its mark says
pub marked_at : (docs pool : List Doc) (marks : List Bool) (n : ℕ) (d : Doc) (b : Bool) → marks ≡ map (is_in docs) pool → slice_get pool n ≡ Some d → b ≡ slice_index_or marks n b → is_in docs d ≡ b
marked_at docs pool marks n d b same is e =
    let at : slice_get marks n ≡ Some (is_in docs d) = ap (λ m. slice_get m n) same ∙ mark_at docs pool n d is in
    sym (e ∙ get_or_from_slice_get marks n (is_in docs d) b at)

-- a pass goes on behind a run that was taken
pub run_passes : (f : Forging) (p e : ℕ) (docs : List Doc) (old new : Draft) → AreApart f.pool → p ≤ e → TakesRun f old p e new
    → PassesOn f p docs (docs_of f old) → PassesOn f e docs (docs_of f new)
run_passes f p e docs old new apart le taken on last rest =
    let run = take (e - p) (drop p f.pool) in
    on last (subst (λ l. Passes f l (docs_of f old) last) (slice_rest f.pool p e le)
    (passes_run tried_fewer f (drop e f.pool) last run (docs_of f old) (apart_slice p (e - p) f.pool apart) taken.run (subst (λ l. IsTried f l None) taken.docs taken.keeps)
    (subst (λ l. Passes f (drop e f.pool) l last) taken.docs rest)))

-- a run whose first document is not in the draft makes it longer
pub run_longer : (f : Forging) (old new : Draft) (p e : ℕ) (d : Doc) → Stands f old → Stands f new → TakesRun f old p e new → slice_get f.pool p ≡ Some d → is_in (docs_of f old) d ≡ false → p < e
    → length old.places.items < length new.places.items
run_longer f old new p e d before behind taken at out lt =
    let first : drop p f.pool ≡ d ∷ drop (p + 1) f.pool = rest_at f.pool p d at in
    let some : 0 < length (run_of f old p e) = by_more (e - p) (omega (arith, lt)) (drop p f.pool) first in
    omega (arith, length-docs_at f.pool old.places.items before.there, length-docs_at f.pool new.places.items behind.there, ap length taken.docs, length-append (docs_of f old) (run_of f old p e), some)
  where
    by_more : (n : ℕ) → 0 < n → (xs : List Doc) → xs ≡ d ∷ drop (p + 1) f.pool → 0 < length (outside (docs_of f old) (take n xs))
    by_more zero lt xs is = absurd (omega (arith, lt))
    by_more (suc n) lt xs is = subst (λ l. 0 < length (outside (docs_of f old) (take (suc n) l))) (sym is) (rw out (omega arith))
