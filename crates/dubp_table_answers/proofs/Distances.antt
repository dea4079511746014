-- The answer on the distance of a key, of what is told of it.
use Rattle.std.proofs.Common.{◌≡◌, ℕ, Bool, true, false, List, Option, Some, None, sym, subst, ◌∙◌, true≢false}
use Rattle.std.specs.Prelude.{codes, IsSome}
use Rattle.std.specs.Option.{MatchOption}
use Rattle.dubp_atoms.specs.Same.{Text}
use Rattle.dubp_block.specs.declared.block.IdentityLine.{IdentityLine}
use Rattle.dubp_chain.specs.Chains.{Chain}
use Rattle.dubp_chain.specs.Distance.{IsNear, sentry_count}
use Rattle.dubp_chain.specs.People.{Written, identity}
use Rattle.dubp_lists.proofs.Elements.{is_false}
use Rattle.dubp_people_views.specs.Nearness.{distance_texts, verdict_text, IsDistanceOf}
use Rattle.dubp_people_views.specs.declared.distances.DistanceView.{DistanceView}
use Rattle.dubp_replay.specs.Answers.{distance_line, none_answer, values_line, IsDistance}

module _ (c : Chain) (k : Text) where
  distance_answered : (d : DistanceView) (line : List ℕ) → line ≡ values_line (codes "DISTANCE") (distance_texts d) → IsDistanceOf c k d → IsDistance c k line
  distance_answered d line text told = record {
    reached = d.reached;
    counted = told.reached;
    near = λ near. reads true (told.passes.1 (subst (IsNear c d.reached) (sym told.sentries) near));
    far = λ far. reads false (is_false d.passes (λ passes. far (subst (IsNear c d.reached) told.sentries (told.passes.0 passes))));
  }
    where
      reads : (passes : Bool) → d.passes ≡ passes → line ≡ distance_line d.reached (sentry_count c k) (verdict_text passes)
      reads passes is = text ∙ (λ i. distance_line d.reached (told.sentries i) (verdict_text (is i)))

  -- the answer of a key with an identity, and of one without
  abbrev pub IsAnswer : List ℕ → Option (Written IdentityLine) → Type 0
  IsAnswer line found = MatchOption found (line ≡ none_answer) (λ _. IsDistance c k line)

  pub near_answer : (d : DistanceView) (line : List ℕ) → line ≡ values_line (codes "DISTANCE") (distance_texts d) → IsSome (identity c k) × IsDistanceOf c k d → IsAnswer line (identity c k)
  near_answer d line text told = elim (identity c k) as (λ o. IsSome o → IsAnswer line o) [
    | None ↦ λ there. absurd (true≢false (sym there))
    | Some w ↦ λ _. distance_answered d line text told.1
  ] told.0

  pub no_answer : (line : List ℕ) → line ≡ none_answer → identity c k ≡ None → IsAnswer line (identity c k)
  no_answer line text none = subst (IsAnswer line) (sym none) text
