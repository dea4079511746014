-- The source that is spent next, and that it can be spent.
use Rattle.std.proofs.Common.{◌≡◌, ℕ, List, [], ◌∷◌, ◌++◌, Option, Some, None, refl, ap, subst, ◌∙◌}
use Rattle.std.specs.List.{AllByRecursion}
use Rattle.std.specs.Prelude.{codes, option_map, slice_get}
use Rattle.dubp_cond.specs.Conditions.{cond_text}
use Rattle.dubp_cond.specs.declared.source.Input.{Input}
use Rattle.dubp_block.specs.Text.{IsBlock}
use Rattle.dubp_chain.specs.Chains.{Chain}
use Rattle.dubp_chain.specs.Money.{Source, signed_by, sources_of}
use Rattle.dubp_validity.specs.Rules.{IsSound}
use Rattle.dubp_drafts.specs.Keys.{key_text}
use Rattle.dubp_ledger.specs.OfAnswers.{SourceView, view_of}
use Rattle.dubp_gen.specs.Generated.{first_source}
use Rattle.dubp_gen.specs.Making.{input_of}
use Rattle.dubp_gen.specs.Spendable.{IsWorth}
use Rattle.dubp_gen.proofs.Spendable.{sources_are_worth}

pub account_is : (text key : List ℕ) (i : ℕ) → text ≡ codes "SIG(" ++ (key ++ codes ")") → key ≡ key_text i → text ≡ cond_text (signed_by (key_text i))
account_is text key i is k = is ∙ ap (λ (t : List ℕ). codes "SIG(" ++ (t ++ codes ")")) k

abbrev spends : Source → Input
spends s = record { amount = s.amount; base = s.base; source = s.id }

-- what is shown of the first source
module _ (c : Chain) (i : ℕ) (text : List ℕ) (account : text ≡ cond_text (signed_by (key_text i))) where
  pub first_is : (view : SourceView) → Some view ≡ option_map view_of (slice_get (sources_of c text) 0) → Some (input_of view) ≡ first_source c i
  first_is view is = by (slice_get (sources_of c (cond_text (signed_by (key_text i)))) 0) (is ∙ ap (λ t. option_map view_of (slice_get (sources_of c t) 0)) account)
    where
      by : (o : Option Source) → Some view ≡ option_map view_of o → Some (input_of view) ≡ option_map spends o
      by None shown = absurd cc
      by (Some s) shown = ap (option_map input_of) shown

  pub none_is : None ≡ option_map view_of (slice_get (sources_of c text) 0) → None ≡ first_source c i
  none_is is = by (slice_get (sources_of c (cond_text (signed_by (key_text i)))) 0) (is ∙ ap (λ t. option_map view_of (slice_get (sources_of c t) 0)) account)
    where
      by : (o : Option Source) → None ≡ option_map view_of o → None ≡ option_map spends o
      by None none = refl
      by (Some s) none = absurd cc

-- it is worth something, as each source is
pub first_is_worth : (c : Chain) (text : List ℕ) (view : SourceView) → IsSound c → AllByRecursion IsBlock c
    → Some view ≡ option_map view_of (slice_get (sources_of c text) 0) → IsWorth (input_of view)
first_is_worth c text view sound are shown = by (sources_of c text) shown (sources_are_worth c text sound are)
  where
    by : (ss : List Source) → Some view ≡ option_map view_of (slice_get ss 0) → AllByRecursion (λ s. IsWorth (input_of (view_of s))) ss → IsWorth (input_of view)
    by [] shown all = absurd cc
    by (s ∷ ss) shown all =
        let same : view_of s ≡ view = cc in
        subst (λ v. IsWorth (input_of v)) same all.0
