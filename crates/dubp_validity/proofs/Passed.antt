-- Of a list of rules some are left out, and each of these passes where all are asked: then the first of all that fails is the first of
-- the others.
use Rattle.std.proofs.Common.{◌≡◌, ◌↔◌, Bool, true, false, cond, List, [], ◌∷◌, Option, Some, None, refl, inl, inr}
use Rattle.std.specs.Prelude.{filter}
use Rattle.dubp_rules.specs.First.{FirstOf}

module _ {R : Type 0} {Asked Held : R → Type 0} (kept : R → Bool) (same : (r : R) → kept r ≡ true → Asked r ↔ Held r) (passes : (r : R) → kept r ≡ false → Asked r) where
  -- the first of all is the first of the others
  pub FirstOf_filter : (rs : List R) (answer : Option R) → FirstOf Asked rs answer → FirstOf Held (filter kept rs) answer
  FirstOf_filter [] None f = tt
  FirstOf_filter [] (Some q) f = absurd f
  FirstOf_filter (r ∷ rs) None f =
      let rest : FirstOf Held (filter kept rs) None = FirstOf_filter rs None f.1 in
      elim (kept r) as (λ k. kept r ≡ k → FirstOf Held (cond k (r ∷ filter kept rs) (filter kept rs)) None) [
        | true ↦ λ e. ((same r e).0 f.0, rest)
        | false ↦ λ e. rest
      ] refl
  FirstOf_filter (r ∷ rs) (Some q) (inl here) =
      elim (kept r) as (λ k. kept r ≡ k → FirstOf Held (cond k (r ∷ filter kept rs) (filter kept rs)) (Some q)) [
        | true ↦ λ e. inl (here.0, λ held. here.1 ((same r e).1 held))
        | false ↦ λ e. absurd (here.1 (passes r e))
      ] refl
  FirstOf_filter (r ∷ rs) (Some q) (inr later) =
      let rest : FirstOf Held (filter kept rs) (Some q) = FirstOf_filter rs (Some q) later.1 in
      elim (kept r) as (λ k. kept r ≡ k → FirstOf Held (cond k (r ∷ filter kept rs) (filter kept rs)) (Some q)) [
        | true ↦ λ e. inr ((same r e).0 later.0, rest)
        | false ↦ λ e. rest
      ] refl

  -- and the first of the others is the first of all
  pub FirstOf_unfiltered : (rs : List R) (answer : Option R) → FirstOf Held (filter kept rs) answer → FirstOf Asked rs answer
  FirstOf_unfiltered [] None f = tt
  FirstOf_unfiltered [] (Some q) f = absurd f
  FirstOf_unfiltered (r ∷ rs) None f =
      elim (kept r) as (λ k. kept r ≡ k → FirstOf Held (cond k (r ∷ filter kept rs) (filter kept rs)) None → FirstOf Asked (r ∷ rs) None) [
        | true ↦ λ e g. ((same r e).1 g.0, FirstOf_unfiltered rs None g.1)
        | false ↦ λ e g. (passes r e, FirstOf_unfiltered rs None g)
      ] refl f
  FirstOf_unfiltered (r ∷ rs) (Some q) f =
      elim (kept r) as (λ k. kept r ≡ k → FirstOf Held (cond k (r ∷ filter kept rs) (filter kept rs)) (Some q) → FirstOf Asked (r ∷ rs) (Some q)) [
        | true ↦ λ e g. elim g [
          | inl here ↦ inl (here.0, λ asked. here.1 ((same r e).0 asked))
          | inr later ↦ inr ((same r e).1 later.0, FirstOf_unfiltered rs (Some q) later.1)
        ]
        | false ↦ λ e g. inr (passes r e, FirstOf_unfiltered rs (Some q) g)
      ] refl f
