-- Each rule stands at one place of the table, and each code names one rule.
use Rattle.std.proofs.Common.{◌≡◌, ℕ, zero, suc, ◌+◌, ◌<◌, true, false, cond, List, [], ◌∷◌, Some, IfSome, find, length, refl, ap, subst, map, slice_get, slice_index_or, arith}
use Rattle.std.proofs.lemmas.Option.{slice_get-get_or}
use Rattle.std.specs.List.{enumerate_from}
use Rattle.std.specs.Cmp.Lexicographic.{same_text}
use Rattle.dubp_rules.specs.declared.rule.Rule.{Rule}
use Rattle.dubp_rules.specs.Table.{table_rules, code_text, names, place_of}

-- where the places of the rules of a list count up from i, the rule at k has the place i + k
counted : {R : Type 0} (place : R → ℕ) (i : ℕ) (rs : List R) → enumerate_from i rs ≡ map (λ r. (place r, r)) rs → (k : ℕ) (r : R) → slice_get rs k ≡ Some r → place r ≡ i + k
counted place i [] count k r e = cc
counted {R = R} place i (x ∷ rs) count zero r e =
    let both : (let row : ℕ × R = (i, x) in row) ≡ (place x, x) = cc in
    let first : i ≡ place x = ap (λ (row : ℕ × R). row.0) both in
    let same : place x ≡ place r = cc in
    omega arith
counted place i (x ∷ rs) count (suc k) r e =
    let rest : enumerate_from (i + 1) rs ≡ map (λ r. (place r, r)) rs = cc in
    omega (arith, counted place (i + 1) rs rest k r e)

place_of_at : (k : ℕ) (r : Rule) → slice_get table_rules k ≡ Some r → place_of r ≡ k
place_of_at k r e = omega (arith, counted place_of 0 table_rules refl k r e)

-- the rule that stands at k has the place k
pub place_of-slice_index_or : (rs : List Rule) (k : ℕ) (r : Rule) → rs ≡ table_rules → k < length rs → place_of (slice_index_or rs k r) ≡ k
place_of-slice_index_or rs k r same within =
    place_of_at k _ (subst (λ l. slice_get l k ≡ Some (slice_index_or rs k r)) same (slice_get-get_or rs k r within))

-- a rule that is found by its code is named by the text
pub found_is_named : (text : List ℕ) (rs : List Rule) → IfSome (find (names text) rs) (λ r. text ≡ code_text r)
found_is_named text [] = tt
found_is_named text (r ∷ rs) =
    elim (names text r) as (λ b. b ≡ names text r → IfSome (cond b (Some r) (find (names text) rs)) (λ q. text ≡ code_text q)) [
      | true ↦ λ same. same_text text (code_text r) same
      | false ↦ λ _. found_is_named text rs
    ] refl
