-- A query has one answer.
use Rattle.std.proofs.Common.{◌≡◌, ◌≤◌, ◌*◌, ◌^◌, ℕ, true, false, List, Some, None, codes, count_by, nat_le, refl, sym, subst, ◌∙◌, MatchOption, arith}
use Rattle.std.proofs.lemmas.Bool.Decides.{nat_tests, same_from_decides}
use Rattle.dubp_atoms.specs.Same.{Text}
use Rattle.dubp_atoms.specs.Walks.{IsCountOf, Reaches, others}
use Rattle.dubp_chain.specs.Chains.{Chain, params}
use Rattle.dubp_chain.specs.Distance.{IsNear, sentries, sentry_count}
use Rattle.dubp_chain.specs.Live.{live_pairs}
use Rattle.dubp_chain.specs.Members.{members}
use Rattle.dubp_chain.specs.People.{identity}
use Rattle.dubp_replay.specs.Answers.{IsAnswered, IsDistance, distance_line, none_answer}
use Rattle.dubp_replay.specs.declared.query.Query.{Query}
use Rattle.dubp_replay.specs.declared.query.Query.TheVariants as query

-- a property holds of one number of elements
one_count : {X : Type 0} (P : X → Type 0) (xs : List X) (n m : ℕ) → IsCountOf P xs n → IsCountOf P xs m → n ≡ m
one_count P xs n m a b = a.2 ∙ (λ i. count_by (λ x. same_from_decides (a.0 x) (b.0 x) (a.1 x) (b.1 x) i) xs) ∙ sym b.2

-- whether they are enough is decided
pub near_or_far : {R : Type 0} (n m : ℕ) → (n ≤ m → R) → ((n ≤ m → ⊥) → R) → R
near_or_far {R} n m f g =
    elim (nat_le n m) as (λ t. nat_le n m ≡ t → R) [
      | true ↦ λ e. f (grind (arith, nat_tests))
      | false ↦ λ e. g (λ h. grind (arith, nat_tests))
    ] refl

one_distance : (c : Chain) (k : Text) (a a' : List ℕ) → IsDistance c k a → IsDistance c k a' → a ≡ a'
one_distance c k a a' p q =
    let ReachesKey : Text → Type 0 = λ from. Reaches (members c) (live_pairs c) (params c).step_max from k in
    let same : q.reached ≡ p.reached = one_count ReachesKey (others (sentries c) k) q.reached p.reached q.counted p.counted in
    let count = sentry_count c k in
    let near : IsNear c p.reached count → a' ≡ distance_line p.reached count (codes "PASS") =
    subst (λ n. IsNear c n count → a' ≡ distance_line n count (codes "PASS")) same q.near in
    let far : (IsNear c p.reached count → ⊥) → a' ≡ distance_line p.reached count (codes "FAIL") =
    subst (λ n. (IsNear c n count → ⊥) → a' ≡ distance_line n count (codes "FAIL")) same q.far in
    near_or_far ((params c).xpercent.mantissa * count) (p.reached * 10 ^ (params c).xpercent.places) (λ h. p.near h ∙ sym (near h)) (λ h. p.far h ∙ sym (far h))

pub one_reply : (c : Chain) (q : Query) (a a' : List ℕ) → IsAnswered c q a → IsAnswered c q a' → a ≡ a'
one_reply c (query.Distance key) a a' p p' =
    elim (identity c key) as (λ o. MatchOption o (a ≡ none_answer) (λ _. IsDistance c key a) → MatchOption o (a' ≡ none_answer) (λ _. IsDistance c key a') → a ≡ a') [
      | None ↦ λ d e. d ∙ sym e
      | Some w ↦ λ d e. one_distance c key a a' d e
    ] p p'
one_reply c q a a' p p' = p ∙ sym p'
