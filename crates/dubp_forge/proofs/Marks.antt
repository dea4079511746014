-- Which documents of the pool are in the draft.
use Rattle.std.proofs.Common.{◌≡◌, ℕ, zero, suc, ◌+◌, ◌≤◌, ◌||◌, Bool, true, false, List, [], ◌∷◌, ◌++◌, length, map, set, Some, refl, ap, sym, ◌∙◌, subst, true≢false, arith}
use Rattle.std.specs.List.{slice_get}
use Rattle.std.specs.Option.{option_map}
use Rattle.std.proofs.lemmas.List.Folds.{list_any-append}
use Rattle.std.proofs.lemmas.Option.{slice_get-map}
use Rattle.dubp_atoms.specs.Same.{Text, same_text}
use Rattle.dubp_chain.proofs.OfAtoms.{same_text_is, same_text_own}
use Rattle.dubp_docs.specs.declared.doc.Doc.{Doc}
use Rattle.dubp_pool.specs.Pools.{AreApart, doc_hash, has_hash, is_pending}
use Rattle.dubp_forging.specs.Forged.{is_in}
use Rattle.dubp_forge.specs.Steps.{count_marked}

-- ---- words

pub first_of_two : (a b : Bool) → (a || b) ≡ false → a ≡ false
first_of_two true b e = absurd (true≢false e)
first_of_two false b e = refl

pub second_of_two : (a b : Bool) → (a || b) ≡ false → b ≡ false
second_of_two true b e = absurd (true≢false e)
second_of_two false b e = e

neither : (a b : Bool) → a ≡ false → b ≡ false → (a || b) ≡ false
neither true b e f = absurd (true≢false e)
neither false b e f = f

pub or_false : (a b : Bool) → b ≡ false → (a || b) ≡ a
or_false true b e = refl
or_false false b e = e

or_true : (a b : Bool) → b ≡ true → (a || b) ≡ true
or_true true b e = refl
or_true false b e = e

or_two : (a b : Bool) → (a || (b || false)) ≡ (a || b)
or_two true b = refl
or_two false true = refl
or_two false false = refl

pub same_turned : (x y : Text) → same_text x y ≡ same_text y x
same_turned x y =
    elim (same_text x y) as (λ r. same_text x y ≡ r → r ≡ same_text y x) [
      | true ↦ λ e. sym (subst (λ (z : Text). same_text z x ≡ true) (same_text_is x y e) (same_text_own x))
      | false ↦ λ e.
          elim (same_text y x) as (λ r. same_text y x ≡ r → false ≡ r) [
            | true ↦ λ f. absurd (true≢false (sym (subst (λ (z : Text). same_text z y ≡ true) (same_text_is y x f) (same_text_own y)) ∙ e))
            | false ↦ λ f. refl
          ] refl
    ] refl

-- ---- one document more among others

pub is_in-push : (docs : List Doc) (d e : Doc) → is_in (docs ++ d ∷ []) e ≡ (is_in docs e || has_hash (doc_hash e) d)
is_in-push docs d e = list_any-append (has_hash (doc_hash e)) docs (d ∷ []) ∙ or_two (is_in docs e) (has_hash (doc_hash e) d)

pub is_in-other : (docs : List Doc) (d e : Doc) → has_hash (doc_hash e) d ≡ false → is_in (docs ++ d ∷ []) e ≡ is_in docs e
is_in-other docs d e other = is_in-push docs d e ∙ or_false (is_in docs e) (has_hash (doc_hash e) d) other

pub is_in-own : (docs : List Doc) (d : Doc) → is_in (docs ++ d ∷ []) d ≡ true
is_in-own docs d = is_in-push docs d d ∙ or_true (is_in docs d) (has_hash (doc_hash d) d) (same_text_own (doc_hash d))

pub apart_push : (docs : List Doc) (d : Doc) → AreApart docs → is_in docs d ≡ false → AreApart (docs ++ d ∷ [])
apart_push [] d a e = (refl, tt)
apart_push (x ∷ docs) d a e = (
  is_in-push docs d x ∙ neither (is_in docs x) _ a.0 (same_turned (doc_hash x) (doc_hash d) ∙ first_of_two (has_hash (doc_hash d) x) _ e),
  apart_push docs d a.1 (second_of_two (has_hash (doc_hash d) x) _ e),
)

pub apart_front : (docs : List Doc) (d : Doc) → AreApart (docs ++ d ∷ []) → AreApart docs
apart_front [] d a = tt
apart_front (x ∷ docs) d a = (first_of_two (is_in docs x) _ (sym (is_in-push docs d x) ∙ a.0), apart_front docs d a.1)

pub apart_last : (docs : List Doc) (d : Doc) → AreApart (docs ++ d ∷ []) → is_in docs d ≡ false
apart_last [] d a = refl
apart_last (x ∷ docs) d a =
    neither (has_hash (doc_hash d) x) _
    (same_turned (doc_hash d) (doc_hash x) ∙ second_of_two (is_in docs x) _ (sym (is_in-push docs d x) ∙ a.0))
    (apart_last docs d a.1)

-- ---- marks

apart_at : (pool : List Doc) (e : Doc) (place : ℕ) (d : Doc) → is_pending pool (doc_hash e) ≡ false → slice_get pool place ≡ Some d → has_hash (doc_hash e) d ≡ false
apart_at [] e place d none is = absurd cc
apart_at (x ∷ pool) e zero d none is =
    let same : x ≡ d = cc in
    subst (λ y. has_hash (doc_hash e) y ≡ false) same (first_of_two (has_hash (doc_hash e) x) _ none)
apart_at (x ∷ pool) e (suc place) d none is = apart_at pool e place d (second_of_two (has_hash (doc_hash e) x) _ none) is

rest_same : (docs pool : List Doc) (d : Doc) → is_pending pool (doc_hash d) ≡ false → map (is_in docs) pool ≡ map (is_in (docs ++ d ∷ [])) pool
rest_same docs [] d none = refl
rest_same docs (x ∷ pool) d none =
    let here : is_in docs x ≡ is_in (docs ++ d ∷ []) x = sym (is_in-other docs d x (same_turned (doc_hash x) (doc_hash d) ∙ first_of_two (has_hash (doc_hash d) x) _ none)) in
    ap (λ b. b ∷ map (is_in docs) pool) here ∙ ap (λ l. is_in (docs ++ d ∷ []) x ∷ l) (rest_same docs pool d (second_of_two (has_hash (doc_hash d) x) _ none))

pub mark : (docs pool : List Doc) (place : ℕ) (d : Doc) → AreApart pool → slice_get pool place ≡ Some d → set (map (is_in docs) pool) place true ≡ map (is_in (docs ++ d ∷ [])) pool
mark docs [] place d apart is = absurd cc
mark docs (x ∷ pool) zero d apart is =
    let same : x ≡ d = cc in
    subst (λ y. true ∷ map (is_in docs) pool ≡ is_in (docs ++ y ∷ []) x ∷ map (is_in (docs ++ y ∷ [])) pool) same
    (ap (λ b. b ∷ map (is_in docs) pool) (sym (is_in-own docs x)) ∙ ap (λ l. is_in (docs ++ x ∷ []) x ∷ l) (rest_same docs pool x apart.0))
mark docs (x ∷ pool) (suc place) d apart is =
    ap (λ b. b ∷ set (map (is_in docs) pool) place true) (sym (is_in-other docs d x (apart_at pool x place d apart.0 is)))
    ∙ ap (λ l. is_in (docs ++ d ∷ []) x ∷ l) (mark docs pool place d apart.1 is)

set_back : (marks : List Bool) (place : ℕ) (a b : Bool) → slice_get marks place ≡ Some b → set (set marks place a) place b ≡ marks
set_back [] place a b is = absurd cc
set_back (x ∷ marks) zero a b is = let same : b ≡ x = cc in ap (λ y. y ∷ marks) same
set_back (x ∷ marks) (suc place) a b is = ap (λ l. x ∷ l) (set_back marks place a b is)

pub mark_at : (docs pool : List Doc) (place : ℕ) (d : Doc) → slice_get pool place ≡ Some d → slice_get (map (is_in docs) pool) place ≡ Some (is_in docs d)
mark_at docs pool place d is = slice_get-map (is_in docs) pool place ∙ ap (option_map (is_in docs)) is

pub unmark : (docs pool : List Doc) (place : ℕ) (d : Doc) → AreApart pool → slice_get pool place ≡ Some d → is_in docs d ≡ false → set (map (is_in (docs ++ d ∷ [])) pool) place false ≡ map (is_in docs) pool
unmark docs pool place d apart is none =
    ap (λ l. set l place false) (sym (mark docs pool place d apart is))
    ∙ set_back (map (is_in docs) pool) place true false (mark_at docs pool place d is ∙ ap Some none)

-- ---- how many are marked

pub count_set : (marks : List Bool) (place : ℕ) → slice_get marks place ≡ Some false → count_marked (set marks place true) ≡ count_marked marks + 1
count_set [] place is = absurd cc
count_set (true ∷ marks) zero is = absurd cc
count_set (false ∷ marks) zero is = refl
count_set (true ∷ marks) (suc place) is = ap (λ n. n + 1) (count_set marks place is)
count_set (false ∷ marks) (suc place) is = count_set marks place is

pub count_unset : (marks : List Bool) (place : ℕ) → slice_get marks place ≡ Some true → count_marked marks ≡ count_marked (set marks place false) + 1
count_unset [] place is = absurd cc
count_unset (true ∷ marks) zero is = refl
count_unset (false ∷ marks) zero is = absurd cc
count_unset (true ∷ marks) (suc place) is = ap (λ n. n + 1) (count_unset marks place is)
count_unset (false ∷ marks) (suc place) is = count_unset marks place is

pub count_few : (marks : List Bool) → count_marked marks ≤ length marks
count_few [] = omega arith
count_few (true ∷ marks) = omega (arith, count_few marks)
count_few (false ∷ marks) = omega (arith, count_few marks)
