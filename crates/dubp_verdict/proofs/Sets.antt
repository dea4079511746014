-- The set as a list, the newest verdict first: a test on it, and what stands in it.
use Rattle.std.proofs.Common.{◌≡◌, ℕ, suc, Bool, true, false, true≢false, ◌&&◌, IsTrue, ◌↔◌, List, ◌∷◌, refl, ap, sym, ◌∙◌, subst, arith}
use Rattle.std.specs.List.{Contains, list_any}
use Rattle.std.specs.List.Sorted.{IsPermutation}
use Rattle.std.specs.Cmp.Lexicographic.{same_text}
use Rattle.std.proofs.lemmas.Cmp.{nat_list_eq_equiv}
use Rattle.std.proofs.lemmas.List.Folds.{list_any_at}
use Rattle.std.proofs.lemmas.List.Sorted.{list_any-IsPermutation}
use Rattle.std.proofs.lemmas.Map.Views.{Contains-from_any}
use Rattle.dubp_verdict.specs.Verdicts.{Verdict, IsWithin, same_verdict, with_verdict}

both : (p q : Bool) → (p && q) ≡ true → (p ≡ true) × (q ≡ true)
both true q e = (refl, e)
both false q e = absurd (true≢false (sym e))

-- verdicts that pass the test are one verdict, and each one passes it with itself
is_same : (t u : Verdict) → same_verdict t u ≡ true → t ≡ u
is_same t u e =
    let first = both _ _ e in
    let rest = both _ _ first.1 in
    let key : t.key ≡ u.key = same_text t.key u.key (sym first.0) in
    let hash : t.hash ≡ u.hash = same_text t.hash u.hash (sym rest.0) in
    let sig : t.sig ≡ u.sig = same_text t.sig u.sig (sym rest.1) in
    let made : ((k h s : List ℕ) → Verdict) = λ k h s. record { key = k; hash = h; sig = s } in
    ap (λ k. made k t.hash t.sig) key ∙ ap (λ h. made u.key h t.sig) hash ∙ ap (λ s. made u.key u.hash s) sig

same_itself : (t : Verdict) → same_verdict t t ≡ true
same_itself t =
    rw (nat_list_eq_equiv.refl t.key, nat_list_eq_equiv.refl t.hash, nat_list_eq_equiv.refl t.sig)

-- the test finds exactly what stands in the list
pub stands_if_found : (v : List Verdict) (t : Verdict) → list_any (same_verdict t) v ≡ true → Contains v t
stands_if_found v t found = Contains-from_any is_same t v found

pub found_if_stands : (v : List Verdict) (t : Verdict) → Contains v t → list_any (same_verdict t) v ≡ true
found_if_stands v t (k, within, is) =
    list_any_at (same_verdict t) v k t within (subst (λ u. same_verdict t u ≡ true) (sym is) (same_itself t))

-- the entries stand in another order than the list, which is v
pub found_among : (t : Verdict) (v order keys : List Verdict) → order ≡ v → IsPermutation order keys → list_any (same_verdict t) keys ≡ list_any (same_verdict t) v
found_among t v order keys is moved =
    sym (list_any-IsPermutation (same_verdict t) order keys moved) ∙ ap (list_any (same_verdict t)) is

pub found_before : (t : Verdict) (v order keys : List Verdict) → order ≡ v → IsPermutation order keys → Contains v t → list_any (same_verdict t) keys ≡ true
found_before t v order keys is moved stands = found_among t v order keys is moved ∙ found_if_stands v t stands

-- the answer of a search among the entries
pub found : (t : Verdict) (v order keys : List Verdict) (answer : Bool) → order ≡ v → IsPermutation order keys → answer ≡ list_any (same_verdict t) keys → IsTrue answer ↔ Contains v t
found t v order keys answer is moved e =
    let same : answer ≡ list_any (same_verdict t) v = e ∙ found_among t v order keys is moved in
    (λ yes. stands_if_found v t (sym same ∙ yes), λ stands. same ∙ found_if_stands v t stands)

-- a verdict that stands in the list changes nothing, and another one is put first
pub with_verdict-there : (t : Verdict) (v : List Verdict) → list_any (same_verdict t) v ≡ true → with_verdict t v ≡ v
with_verdict-there t v e = rw e

pub with_verdict-new : (t : Verdict) (v : List Verdict) → list_any (same_verdict t) v ≡ false → with_verdict t v ≡ t ∷ v
with_verdict-new t v e = rw e

behind : (t u : Verdict) (v : List Verdict) → Contains v u → Contains (t ∷ v) u
behind t u v (k, within, is) = (suc k, omega arith, is)

-- what a set has after one verdict more
pub with_verdict-has : (t : Verdict) (v : List Verdict) → Contains (with_verdict t v) t
with_verdict-has t v =
    elim (list_any (same_verdict t) v) as (λ b. list_any (same_verdict t) v ≡ b → Contains (with_verdict t v) t) [
      | true ↦ λ e. rw (with_verdict-there t v e) (stands_if_found v t e)
      | false ↦ λ e. rw (with_verdict-new t v e) (0, omega arith, refl)
    ] refl

pub with_verdict-within : (t : Verdict) (v : List Verdict) → IsWithin v (with_verdict t v)
with_verdict-within t v u stands =
    elim (list_any (same_verdict t) v) as (λ b. list_any (same_verdict t) v ≡ b → Contains (with_verdict t v) u) [
      | true ↦ λ e. rw (with_verdict-there t v e) stands
      | false ↦ λ e. rw (with_verdict-new t v e) (behind t u v stands)
    ] refl
