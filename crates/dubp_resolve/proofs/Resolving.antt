-- `resolve` has one result, and it ends.
use Rattle.std.proofs.Common.{◌≡◌, ℕ, zero, suc, ◌<◌, List, [], ◌∷◌, Some, None, refl, sym, ap, subst, ◌∙◌, arith, inl, inr}
use Rattle.std.specs.Option.{option_map}
use Rattle.dubp_atoms.specs.declared.stamp.Stamp.{Stamp}
use Rattle.dubp_resolve.specs.Choice.{Choices, choice}
use Rattle.dubp_resolve.specs.Resolve as spec
use Rattle.dubp_resolve.specs.Resolve.{Line, Switched, Failed}
use Rattle.dubp_resolve.proofs.Ending.{candidates, fewer_candidates}

module _ {State Failure : Type 0} (tip at : Failure → Stamp) (view : State → Choices) (Succeeds : State → Stamp → State → Type 0) (Fails : State → Failure → State → Type 0) where
  abbrev Resolves : State → List (Line Failure) → State → Type 0
  Resolves = spec.Resolves tip at view Succeeds Fails

  abbrev IsTip : State → Stamp → Type 0
  IsTip = spec.IsTip tip at view Succeeds Fails

  same_tip : (old : State) (s t : Stamp) → IsTip old s → IsTip old t → s ≡ t
  same_tip old s t a b = let e : Some s ≡ Some t = sym a ∙ b in cc

  no_tip : (old : State) (t : Stamp) → choice (view old) ≡ None → IsTip old t → ⊥
  no_tip old t a b = let e : None ≡ Some t = sym (ap (option_map (λ b. b.stamp)) a) ∙ b in cc

  pub determined : spec.HasOneResult tip at view Succeeds Fails → spec.IsDetermined tip at view Succeeds Fails
  determined one old [] [] new new' a b = (refl, a.1 ∙ sym b.1)
  determined one old [] (Switched t ∷ []) new new' a b = absurd (no_tip old t a.0 b.0)
  determined one old [] (Switched t ∷ (m ∷ ls)) new new' a b = absurd b
  determined one old [] (Failed f ∷ ls) new new' a b = absurd (no_tip old (tip f) a.0 b.0)
  determined one old (Switched t ∷ []) [] new new' a b = absurd (no_tip old t b.0 a.0)
  determined one old (Switched t ∷ []) (Switched s ∷ []) new new' a b =
      let e : t ≡ s = same_tip old t s a.0 b.0 in
      (ap (λ u. Switched u ∷ []) e, one.success old s new new' (subst (λ u. Succeeds old u new) e a.1) b.1)
  determined one old (Switched t ∷ []) (Switched s ∷ (m ∷ ls)) new new' a b = absurd b
  determined one old (Switched t ∷ []) (Failed f ∷ ls) new new' a b =
      absurd (one.either old f b.1 new b.2 (subst (λ u. Succeeds old u new) (same_tip old t (tip f) a.0 b.0) a.1))
  determined one old (Switched t ∷ (m ∷ ls)) lines' new new' a b = absurd a
  determined one old (Failed f ∷ ls) [] new new' a b = absurd (no_tip old (tip f) b.0 a.0)
  determined one old (Failed f ∷ ls) (Switched s ∷ []) new new' a b =
      absurd (one.either old f a.1 new' a.2 (subst (λ u. Succeeds old u new') (same_tip old s (tip f) b.0 a.0) b.1))
  determined one old (Failed f ∷ ls) (Switched s ∷ (m ∷ ms)) new new' a b = absurd b
  determined one old (Failed f ∷ ls) (Failed g ∷ ms) new new' a b =
      let e = one.failure old f g a.1 b.1 a.2 b.2 (same_tip old (tip f) (tip g) a.0 b.0) in
      let rest = determined one a.1 ls ms new new' a.3 (subst (λ middle. Resolves middle ms new') (sym e.1) b.3) in
      ((λ i. Failed (e.0 i) ∷ rest.0 i), rest.1)

  abbrev Ended : State → Type 0
  Ended old = (lines : List (Line Failure)) × (new : State) × Resolves old lines new

  ends_within : spec.IsTotal tip at view Succeeds Fails → (most : ℕ) (old : State) → candidates (view old) < most → Ended old
  ends_within total zero old l = absurd (omega arith)
  ends_within total (suc most) old l =
      elim (choice (view old)) as (λ o. choice (view old) ≡ o → Ended old) [
        | None ↦ λ e. ([], old, (e, refl))
        | Some b ↦ λ e.
            let chosen : IsTip old b.stamp = ap (option_map (λ b. b.stamp)) e in
            elim (total old b e) as (λ _. Ended old) [
              | inl s ↦ (Switched b.stamp ∷ [], s.0, (chosen, s.1))
              | inr r ↦
                  let f : Failure = r.0 in
                  let middle : State = r.1 in
                  let less = fewer_candidates (view old) (view old).failed (at f) b e r.4 in
                  let here : candidates (view middle) < candidates (view old) = subst (λ (v : Choices). candidates v < candidates (view old)) (sym r.5) less in
                  let rest = ends_within total most middle (omega arith) in
                  (Failed f ∷ rest.0, rest.1, (subst (IsTip old) (sym r.3) chosen, middle, r.2, rest.2))
            ]
      ] refl

  pub ends : spec.IsTotal tip at view Succeeds Fails → spec.Ends tip at view Succeeds Fails
  ends total old = ends_within total (suc (candidates (view old))) old (omega arith)
