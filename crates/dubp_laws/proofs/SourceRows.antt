-- The row of a source in a list of sources of which none stands twice: its amount, and its place in the order of the list.
use Rattle.std.proofs.Common.{◌≡◌, ℕ, ◌+◌, Bool, true, false, cond, ◌||◌, ◌&&◌, List, [], ◌∷◌, ◌++◌, Option, Some, None, option_map, length, refl, ap, sym, ◌∙◌, subst, true≢false, arith, add-zero}
use Rattle.std.specs.Prelude.{find}
use Rattle.std.specs.Option.{option_or}
use Rattle.std.specs.List.{list_any, enumerate_from}
use Rattle.std.proofs.lemmas.List.Folds.{list_any-append}
use Rattle.dubp_cond.specs.declared.source.SourceId.{SourceId}
use Rattle.dubp_cond.specs.declared.source.Input.{Input}
use Rattle.dubp_chain.specs.Money.{Source, same_source}
use Rattle.dubp_chain.specs.Tables.{SourceRow, row_of_source}
use Rattle.dubp_lists.proofs.Elements.{or_left, or_right}
use Rattle.dubp_laws.proofs.Sources.{same_source_is, SourcesApart, sources_tail, sources_head}

-- ---- lists of sources of which none stands twice

module _ (id : SourceId) where
  -- the source has this name, and the input names it
  abbrev pub has_id : Source → Bool
  has_id s = same_source id s.id

  abbrev pub names_id : Input → Bool
  names_id input = same_source id input.source

  -- of two lists that together have no source twice, one at most has this
  pub not_in_both : (xs ys : List Source) → SourcesApart (xs ++ ys) → list_any has_id xs ≡ true → list_any has_id ys ≡ false
  not_in_both [] ys apart e = absurd (true≢false (sym e))
  not_in_both (x ∷ xs) ys apart e =
      elim (same_source id x.id) as (λ r. same_source id x.id ≡ r → (r || list_any has_id xs) ≡ true → list_any has_id ys ≡ false) [
        | true ↦ λ is _.
            subst (λ name. list_any (λ (s : Source). same_source name s.id) ys ≡ false) (sym (same_source_is id x.id is))
            (or_right (list_any (λ (s : Source). same_source x.id s.id) xs) _
            (sym (list_any-append (λ (s : Source). same_source x.id s.id) xs ys) ∙ sources_head x (xs ++ ys) apart))
        | false ↦ λ _ later. not_in_both xs ys (sources_tail x (xs ++ ys) apart) later
      ] refl e

pub apart_last : (xs ys : List Source) → SourcesApart (xs ++ ys) → SourcesApart ys
apart_last [] ys apart = apart
apart_last (x ∷ xs) ys apart = apart_last xs ys (sources_tail x (xs ++ ys) apart)

pub apart_first : (xs ys : List Source) → SourcesApart (xs ++ ys) → SourcesApart xs
apart_first [] ys apart = refl
apart_first (x ∷ xs) ys apart =
    let none = or_left (list_any (λ (s : Source). same_source x.id s.id) xs) _
    (sym (list_any-append (λ (s : Source). same_source x.id s.id) xs ys) ∙ sources_head x (xs ++ ys) apart) in
    rw none (apart_first xs ys (sources_tail x (xs ++ ys) apart))

-- ---- the row of a source in a list of sources, of which the first has this place

module _ (id : SourceId) where
  abbrev pub found : ℕ → List Source → Option SourceRow
  found n ss = option_map row_of_source (find (λ p. same_source id p.1.id) (enumerate_from n ss))

  pub found_none : (n : ℕ) (ss : List Source) → list_any (has_id id) ss ≡ false → found n ss ≡ None
  found_none n [] none = refl
  found_none n (s ∷ ss) none =
      let here : same_source id s.id ≡ false = or_left (same_source id s.id) (list_any (has_id id) ss) none in
      rw here (found_none (n + 1) ss (or_right (same_source id s.id) (list_any (has_id id) ss) none))

  pub found-append : (n : ℕ) (xs ys : List Source) → found n (xs ++ ys) ≡ option_or (found n xs) (found (n + length xs) ys)
  found-append n [] ys = ap (λ m. found m ys) (sym (add-zero n))
  found-append n (x ∷ xs) ys =
      elim (same_source id x.id) as (λ r. option_map row_of_source (cond r (Some (n, x)) (find (λ p. same_source id p.1.id) (enumerate_from (n + 1) (xs ++ ys))))
      ≡ option_or (option_map row_of_source (cond r (Some (n, x)) (find (λ p. same_source id p.1.id) (enumerate_from (n + 1) xs)))) (found (n + length (x ∷ xs)) ys)) [
        | true ↦ refl
        | false ↦ found-append (n + 1) xs ys ∙ ap (λ m. option_or (found (n + 1) xs) (found m ys)) (omega arith)
      ]

  -- a test that tells no two sources of this name apart finds the source or hides it
  pub found-where : (left : Source → Bool) (is : Bool) → ((s : Source) → same_source id s.id ≡ true → left s ≡ is) → (n : ℕ) (ss : List Source)
      → option_map row_of_source (find (λ p. same_source id p.1.id && left p.1) (enumerate_from n ss)) ≡ cond is (found n ss) None
  found-where left true same n [] = refl
  found-where left false same n [] = refl
  found-where left is same n (s ∷ ss) =
      elim (same_source id s.id) as (λ r. same_source id s.id ≡ r
      → option_map row_of_source (cond (r && left s) (Some (n, s)) (find (λ p. same_source id p.1.id && left p.1) (enumerate_from (n + 1) ss)))
      ≡ cond is (option_map row_of_source (cond r (Some (n, s)) (find (λ p. same_source id p.1.id) (enumerate_from (n + 1) ss)))) None) [
        | true ↦ λ e. here (left s) is (same s e) (found-where left is same (n + 1) ss)
        | false ↦ λ _. found-where left is same (n + 1) ss
      ] refl
    where
      here : (l is : Bool) → l ≡ is → option_map row_of_source (find (λ p. same_source id p.1.id && left p.1) (enumerate_from (n + 1) ss)) ≡ cond is (found (n + 1) ss) None
          → option_map row_of_source (cond l (Some (n, s)) (find (λ p. same_source id p.1.id && left p.1) (enumerate_from (n + 1) ss))) ≡ cond is (Some (row_of_source (n, s))) None
      here true true e later = refl
      here false false e later = later
      here true false e later = absurd (true≢false e)
      here false true e later = absurd (true≢false (sym e))
