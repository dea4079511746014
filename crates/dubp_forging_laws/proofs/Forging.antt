-- What passes lead to, and what is left out, is one.
use Rattle.std.proofs.Common.{◌≡◌, ◌&&◌, ◌∙◌, Bool, true, false, not, List, [], ◌∷◌, ◌++◌, length, Option, Some, None, MatchBool, ap, sym, subst, arith}
use Rattle.std.specs.Option.{MatchOption}
use Rattle.dubp_atoms.specs.Same.{Text}
use Rattle.dubp_docs.specs.declared.doc.Doc.TheVariants.{Identity}
use Rattle.dubp_rules.specs.declared.rule.Rule.{Rule}
use Rattle.dubp_pool.specs.Pools.{doc_hash}
use Rattle.dubp_forging.specs.OfPool.{Doc}
use Rattle.dubp_forging.specs.Drafts.{IsDraftOf, with_lines}
use Rattle.dubp_forging.specs.Forged.{Adds, Certifies, Forging, IsTried, LeavesOut, Passes, Settles, is_certifying, is_in, is_mendable, with_membership}
use Rattle.dubp_forging_laws.specs.Laws.{ForgingIsOne}
use Rattle.dubp_forging_laws.proofs.Drafts.{one_draft}
use Rattle.dubp_forging_laws.proofs.Tried.{one_trial}

-- by a test, and by whether there is a value
two_by_test : {R : Type 0} (t : Bool) (P Q P' Q' : Type 0) → (P → P' → R) → (Q → Q' → R) → MatchBool t P Q → MatchBool t P' Q' → R
two_by_test true P Q P' Q' f g p q = f p q
two_by_test false P Q P' Q' f g p q = g p q

two_by_value : {R X : Type 0} (o : Option X) (P P' : Type 0) (Q Q' : X → Type 0) → (P → P' → R) → ((x : X) → Q x → Q' x → R)
    → MatchOption o P Q → MatchOption o P' Q' → R
two_by_value None P P' Q Q' f g p q = f p q
two_by_value (Some x) P P' Q Q' f g p q = g x p q

module _ (f : Forging) where
  -- ---- a document more
  one_certifying : (key : Text) (docs : List Doc) (old new new' : List Doc) → Certifies f key docs old new → Certifies f key docs old new' → new ≡ new'
  one_certifying key [] old new new' p q = p ∙ sym q
  one_certifying key (d ∷ docs) old new new' p q =
      let more = old ++ d ∷ [] in
      two_by_test (is_certifying key d && not (is_in old d)) _ _ _ _
      (λ (x : (found : Option Rule) × IsTried f more found × MatchBool (is_mendable found) (Certifies f key docs more new) (Certifies f key docs old new))
      (y : (found : Option Rule) × IsTried f more found × MatchBool (is_mendable found) (Certifies f key docs more new') (Certifies f key docs old new')).
      two_by_test (is_mendable x.0) _ _ _ _ (one_certifying key docs more new new') (one_certifying key docs old new new') x.2
      (subst (λ o. MatchBool (is_mendable o) (Certifies f key docs more new') (Certifies f key docs old new')) (one_trial f more y.0 x.0 y.1 x.1) y.2))
      (one_certifying key docs old new new') p q

  one_adding : (old : List Doc) (d : Doc) (new new' : List Doc) → Adds f old d new → Adds f old d new' → new ≡ new'
  one_adding old (Identity i) new new' p q = one_certifying i.issuer f.pool (with_membership f i (old ++ Identity i ∷ [])) new new' p q
  one_adding old d new new' p q = p ∙ sym q

  -- ---- passes
  abbrev Takes : Doc → List Doc → List Doc → List Doc → Type 0
  Takes d rest old new =
      (more : List Doc) × (found : Option Rule) × Adds f old d more × IsTried f more found
      × MatchOption found (Passes f rest more new) (λ rule. Passes f rest old new)

  one_pass : (docs : List Doc) (old new new' : List Doc) → Passes f docs old new → Passes f docs old new' → new ≡ new'
  one_pass [] old new new' p q = p ∙ sym q
  one_pass (d ∷ docs) old new new' p q =
      two_by_test (is_in old d) _ _ _ _ (one_pass docs old new new')
      (λ (x : Takes d docs old new) (y : Takes d docs old new').
      let more = one_adding old d y.0 x.0 y.2 x.2 in
      let tried : IsTried f x.0 y.1 = subst (λ (l : List Doc). IsTried f l y.1) more y.3 in
      let found = one_trial f x.0 y.1 x.1 tried x.3 in
      let goes : MatchOption x.1 (Passes f docs x.0 new') (λ rule. Passes f docs old new') =
      subst (λ (o : Option Rule). MatchOption o (Passes f docs x.0 new') (λ rule. Passes f docs old new')) found
      (subst (λ (l : List Doc). MatchOption y.1 (Passes f docs l new') (λ rule. Passes f docs old new')) more y.4) in
      two_by_value x.1 _ _ _ _ (one_pass docs x.0 new new') (λ rule. one_pass docs old new new') x.4 goes) p q

  -- a pass that takes nothing is the last
  one_settling : (passes passes' : List (List Doc)) (old new new' : List Doc) → Settles f passes old new → Settles f passes' old new' → new ≡ new'
  one_settling [] [] old new new' p q = p.1 ∙ sym q.1
  one_settling [] (next ∷ passes') old new new' p q =
      let same : length next ≡ length old = ap length (one_pass f.pool old next old q.0 p.0) in absurd (omega (arith, same, q.1))
  one_settling (next ∷ passes) [] old new new' p q =
      let same : length next ≡ length old = ap length (one_pass f.pool old next old p.0 q.0) in absurd (omega (arith, same, p.1))
  one_settling (next ∷ passes) (next' ∷ passes') old new new' p q =
      let same = one_pass f.pool old next' next q.0 p.0 in
      one_settling passes passes' next new new' p.2 (subst (λ (l : List Doc). Settles f passes' l new') same q.2)

  -- ---- what is left out
  abbrev Leaves : List Doc → Doc → List Doc → List (Text × Rule) → Type 0
  Leaves docs d rest left =
      (more : List Doc) × (rule : Rule) × (others : List (Text × Rule)) × Adds f docs d more × IsTried f more (Some rule)
      × (left ≡ (doc_hash d, rule) ∷ others) × LeavesOut f docs rest others

  one_leaving : (docs rest : List Doc) (left left' : List (Text × Rule)) → LeavesOut f docs rest left → LeavesOut f docs rest left' → left ≡ left'
  one_leaving docs [] left left' p q = p ∙ sym q
  one_leaving docs (d ∷ rest) left left' p q =
      two_by_test (is_in docs d) _ _ _ _ (one_leaving docs rest left left')
      (λ (x : Leaves docs d rest left) (y : Leaves docs d rest left').
      let more = one_adding docs d y.0 x.0 y.3 x.3 in
      let tried : IsTried f x.0 (Some y.1) = subst (λ (l : List Doc). IsTried f l (Some y.1)) more y.4 in
      let found : Some x.1 ≡ Some y.1 = one_trial f x.0 (Some x.1) (Some y.1) x.4 tried in
      let rule : x.1 ≡ y.1 = cc in
      let others = one_leaving docs rest x.2 y.2 x.6 y.6 in
      x.5 ∙ (λ i. (doc_hash d, rule i) ∷ others i) ∙ sym y.5) p q

pub one_forging : ForgingIsOne
one_forging f b b' left left' p q =
    let docs : q.docs ≡ p.docs = one_settling f q.passes p.passes [] q.docs p.docs q.settles p.settles in (
      one_draft f.chain (with_lines f.chain f.issuer f.time p.docs) b b' p.draft (subst (λ (l : List Doc). IsDraftOf f.chain f.issuer f.time l b') docs q.draft),
      one_leaving f p.docs f.pool left left' p.leaves (subst (λ (l : List Doc). LeavesOut f l f.pool left') docs q.leaves),
    )
