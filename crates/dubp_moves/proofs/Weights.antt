-- Sums over sources: what those with a condition weigh, what a source more or less makes of a sum, and that a part is at most the whole.
use Rattle.std.proofs.Common.{◌≡◌, ℕ, ◌+◌, ◌≤◌, Bool, true, false, cond, not, List, [], ◌∷◌, ◌++◌, filter, sum_by, refl, ap, sym, ◌∙◌, subst, true≢false, arith, inl, inr}
use Rattle.std.specs.List.{list_any}
use Rattle.std.proofs.lemmas.List.Sums.{sum_by-cons, sum_by-append}
use Rattle.dubp_verdict.specs.OfAtoms.{Text, same_text}
use Rattle.dubp_chain.specs.OfCond.{cond_text}
use Rattle.dubp_chain.specs.Money.{Source, same_source, units_of, units_of_cond}
use Rattle.dubp_laws.proofs.OfLists.{IsIn, in_any, any_in, in_filter, kept_in, is_false, list_any-map}
use Rattle.dubp_laws.proofs.OfLists.{sum_of_one}
use Rattle.dubp_laws.proofs.Sources.{same_source_is, same_source_own, SourcesApart, sources_tail, sources_head}
use Rattle.dubp_moves.specs.Moves.{names_with}

-- ---- two sources of a list without repeats

-- of two lists that together have no source twice, no source is in both
pub apart_both : (xs ys : List Source) → SourcesApart (xs ++ ys) → (x y : Source) → IsIn x xs → IsIn y ys → same_source x.id y.id ≡ false
apart_both [] ys apart x y there here = absurd there
apart_both (z ∷ xs) ys apart x y (inl e) here =
    subst (λ (s : Source). same_source s.id y.id ≡ false) (sym e)
    (is_false (same_source z.id y.id) (λ same. true≢false
    (sym (in_any (λ (other : Source). same_source z.id other.id) (xs ++ ys) y (behind xs) same) ∙ sources_head z (xs ++ ys) apart)))
  where
    behind : (zs : List Source) → IsIn y (zs ++ ys)
    behind [] = here
    behind (w ∷ zs) = inr (behind zs)
apart_both (z ∷ xs) ys apart x y (inr there) here = apart_both xs ys (sources_tail z (xs ++ ys) apart) x y there here

-- two of one name are one
pub same_one : (xs : List Source) → SourcesApart xs → (x y : Source) → IsIn x xs → IsIn y xs → same_source x.id y.id ≡ true → x ≡ y
same_one [] apart x y there here same = absurd there
same_one (z ∷ xs) apart x y (inl e) (inl f) same = e ∙ sym f
same_one (z ∷ xs) apart x y (inl e) (inr here) same =
    absurd (true≢false (sym (in_any (λ (other : Source). same_source z.id other.id) xs y here (subst (λ (s : Source). same_source s.id y.id ≡ true) e same)) ∙ sources_head z xs apart))
same_one (z ∷ xs) apart x y (inr there) (inl f) same =
    let turned : same_source z.id x.id ≡ true =
    subst (λ (s : Source). same_source s.id x.id ≡ true) f (subst (λ id. same_source id x.id ≡ true) (same_source_is x.id y.id same) (same_source_own x.id)) in
    absurd (true≢false (sym (in_any (λ (other : Source). same_source z.id other.id) xs x there turned) ∙ sources_head z xs apart))
same_one (z ∷ xs) apart x y (inr there) (inr here) same = same_one xs (sources_tail z xs apart) x y there here same

-- whether the source has the condition of this text
abbrev pub has_cond : Text → Source → Bool
has_cond text s = same_text text (cond_text s.cond)

-- one of the names is that of a source of the list exactly where this has the condition
pub named_is : (text : Text) (xs : List Source) → SourcesApart xs → (s : Source) → IsIn s xs
    → list_any (λ name. same_source name s.id) (names_with text xs) ≡ has_cond text s
named_is text xs apart s there =
    list_any-map (λ name. same_source name s.id) (λ (x : Source). x.id) (filter (has_cond text) xs)
    ∙ (elim (has_cond text s) as (λ r. has_cond text s ≡ r → list_any (λ (x : Source). same_source x.id s.id) (filter (has_cond text) xs) ≡ r) [
      | true ↦ λ has. in_any (λ (x : Source). same_source x.id s.id) (filter (has_cond text) xs) s (kept_in (has_cond text) xs s there has) (same_source_own s.id)
      | false ↦ λ lacks. is_false _ (λ found.
          let x = any_in (λ (x : Source). same_source x.id s.id) (filter (has_cond text) xs) found in
          let k = in_filter (has_cond text) xs x.0 x.1 in
          true≢false (sym k.1 ∙ ap (has_cond text) (same_one xs apart x.0 s k.0 there x.2) ∙ lacks))
    ] refl)

-- ---- weights

-- the units that a source gives to the condition of this text
abbrev pub weight : Text → Source → ℕ
weight text s = cond (has_cond text s) (units_of s) 0

pub weights-are : (text : Text) (xs : List Source) → units_of_cond text xs ≡ sum_by (weight text) xs
weights-are text [] = refl
weights-are text (x ∷ xs) =
    elim (has_cond text x) as (λ r. has_cond text x ≡ r → sum_by units_of (cond r (x ∷ filter (has_cond text) xs) (filter (has_cond text) xs)) ≡ sum_by (weight text) (x ∷ xs)) [
      | true ↦ λ has.
          let one : weight text x ≡ units_of x = ap (λ b. cond b (units_of x) 0) has in
          omega (arith, sum_by-cons units_of x (filter (has_cond text) xs), sum_by-cons (weight text) x xs, weights-are text xs, one)
      | false ↦ λ lacks.
          let one : weight text x ≡ 0 = ap (λ b. cond b (units_of x) 0) lacks in
          omega (arith, sum_by-cons (weight text) x xs, weights-are text xs, one)
    ] refl

at_most_units : (r : Bool) (n : ℕ) → cond r n 0 ≤ n
at_most_units true n = omega arith
at_most_units false n = omega arith

-- what a condition has of some sources is at most what they have
pub weights-below : (text : Text) (xs : List Source) → sum_by (weight text) xs ≤ sum_by units_of xs
weights-below text [] = omega arith
weights-below text (x ∷ xs) =
    omega (arith, sum_by-cons (weight text) x xs, sum_by-cons units_of x xs, at_most_units (has_cond text x) (units_of x), weights-below text xs)

module _ (f : Source → ℕ) where
  pub sum-last : (xs : List Source) (s : Source) → sum_by f (xs ++ s ∷ []) ≡ sum_by f xs + f s
  sum-last xs s = omega (arith, sum_by-append f xs (s ∷ []), sum_by-cons f s [])

  -- what passes and what does not is all
  pub sum-split : (p : Source → Bool) (xs : List Source) → sum_by f (filter (λ x. not (p x)) xs) + sum_by f (filter p xs) ≡ sum_by f xs
  sum-split p [] = refl
  sum-split p (x ∷ xs) =
      elim (p x) as (λ r. sum_by f (cond (not r) (x ∷ filter (λ x. not (p x)) xs) (filter (λ x. not (p x)) xs)) + sum_by f (cond r (x ∷ filter p xs) (filter p xs)) ≡ sum_by f (x ∷ xs)) [
        | true ↦ omega (arith, sum_by-cons f x (filter p xs), sum_by-cons f x xs, sum-split p xs)
        | false ↦ omega (arith, sum_by-cons f x (filter (λ x. not (p x)) xs), sum_by-cons f x xs, sum-split p xs)
      ]

  -- without one of them
  pub sum-without : (xs : List Source) (s : Source) → SourcesApart xs → IsIn s xs
      → sum_by f (filter (λ x. not (same_source x.id s.id)) xs) + f s ≡ sum_by f xs
  sum-without xs s apart there =
      omega (arith, sum-split (λ x. same_source x.id s.id) xs, sum_of_one same_source same_source_is same_source_own (λ (x : Source). x.id) f xs s apart there)
