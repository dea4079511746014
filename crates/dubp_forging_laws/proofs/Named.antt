-- Each document that waits is in the draft, or it is named among those that are left out.
use Rattle.std.proofs.Common.{◌≡◌, ◌||◌, ◌∙◌, Bool, true, false, not, List, [], ◌∷◌, Some, MatchBool, refl, ap, sym, subst, true≢false}
use Rattle.std.specs.List.{AllByRecursion}
use Rattle.dubp_atoms.specs.Same.{Text, same_text}
use Rattle.dubp_lists.proofs.InOrder.{same_text_is, same_text_own}
use Rattle.dubp_rules.specs.declared.rule.Rule.{Rule}
use Rattle.dubp_pool.specs.Pools.{AreApart, has_hash, is_pending}
use Rattle.dubp_forging.specs.OfPool.{Doc, doc_hash}
use Rattle.dubp_forging.specs.Forged.{Adds, Forging, IsTried, LeavesOut, is_in}
use Rattle.dubp_forging_laws.specs.Laws.{EachIsInOrNamed, IsInOrNamed, is_left}

or_left : (a b : Bool) → (a || b) ≡ false → a ≡ false
or_left true b e = absurd (true≢false e)
or_left false b e = refl

or_right : (a b : Bool) → (a || b) ≡ false → b ≡ false
or_right true b e = absurd (true≢false e)
or_right false b e = e

same_turned : (x y : Text) → same_text x y ≡ same_text y x
same_turned x y =
    elim (same_text x y) as (λ r. same_text x y ≡ r → r ≡ same_text y x) [
      | true ↦ λ e. sym (subst (λ (z : Text). same_text z x ≡ true) (same_text_is x y e) (same_text_own x))
      | false ↦ λ e.
          elim (same_text y x) as (λ r. same_text y x ≡ r → false ≡ r) [
            | true ↦ λ f. absurd (true≢false (sym (subst (λ (z : Text). same_text z y ≡ true) (same_text_is y x f) (same_text_own y)) ∙ e))
            | false ↦ λ f. refl
          ] refl
    ] refl

by_test : {R : Type 0} (t : Bool) (P Q : Type 0) → (t ≡ true → P → R) → (t ≡ false → Q → R) → MatchBool t P Q → R
by_test true P Q f g p = f refl p
by_test false P Q f g p = g refl p

module _ (f : Forging) (docs : List Doc) where
  abbrev Leaves : Doc → List Doc → List (Text × Rule) → Type 0
  Leaves d rest left =
      (more : List Doc) × (rule : Rule) × (others : List (Text × Rule)) × Adds f docs d more × IsTried f more (Some rule)
      × (left ≡ (doc_hash d, rule) ∷ others) × LeavesOut f docs rest others

  -- what is none of these documents is not named
  not_named : (rest : List Doc) (left : List (Text × Rule)) (d : Doc) → LeavesOut f docs rest left → is_pending rest (doc_hash d) ≡ false → is_left left d ≡ false
  not_named [] left d leaves none = ap (λ l. is_left l d) leaves
  not_named (e ∷ rest) left d leaves none =
      by_test (is_in docs e) _ _ (λ t p. not_named rest left d p (or_right (has_hash (doc_hash d) e) _ none))
      (λ t (x : Leaves e rest left).
      ap (λ l. is_left l d) x.5 ∙ ap (λ r. r || is_left x.2 d) (or_left (has_hash (doc_hash d) e) _ none)
      ∙ not_named rest x.2 d x.6 (or_right (has_hash (doc_hash d) e) _ none)) leaves

  -- one more name changes nothing of the others
  still : (left others : List (Text × Rule)) (d : Doc) (rule : Rule) (rest : List Doc) → left ≡ (doc_hash d, rule) ∷ others → is_pending rest (doc_hash d) ≡ false
      → AllByRecursion (IsInOrNamed docs others) rest → AllByRecursion (IsInOrNamed docs left) rest
  still left others d rule [] is none all = tt
  still left others d rule (e ∷ rest) is none all = (
    ap (λ l. is_left l e) is ∙ ap (λ r. r || is_left others e) (same_turned (doc_hash e) (doc_hash d) ∙ or_left (same_text (doc_hash d) (doc_hash e)) _ none) ∙ all.0,
    still left others d rule rest is (or_right (same_text (doc_hash d) (doc_hash e)) _ none) all.1,
  )

  each : (rest : List Doc) (left : List (Text × Rule)) → AreApart rest → LeavesOut f docs rest left → AllByRecursion (IsInOrNamed docs left) rest
  each [] left apart leaves = tt
  each (d ∷ rest) left apart leaves =
      by_test (is_in docs d) _ _ (λ t p. (not_named rest left d p apart.0 ∙ ap not (sym t), each rest left apart.1 p))
      (λ t (x : Leaves d rest left). (
        ap (λ l. is_left l d) x.5 ∙ ap (λ r. r || is_left x.2 d) (same_text_own (doc_hash d)) ∙ ap not (sym t),
        still left x.2 d x.1 rest x.5 apart.0 (each rest x.2 apart.1 x.6),
      )) leaves

pub each_named : EachIsInOrNamed
each_named f b left forged apart = each f forged.docs f.pool left apart forged.leaves
