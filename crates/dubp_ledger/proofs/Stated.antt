-- What the header of the next block states: its head, or where it passes a limit, that without a dividend.
use Rattle.std.proofs.Common.{◌≡◌, ◌∙◌, inl, inr, ℕ, ◌^◌, ◌<◌, ◌≤◌, List, [], ◌∷◌, length, Some, None, refl, ap, sym, subst, arith}
use Rattle.dubp_params.specs.declared.params.Params.{Params}
use Rattle.dubp_params.specs.Ranges.{IsInRange}
use Rattle.dubp_block.specs.declared.block.Block.{Block}
use Rattle.dubp_rules.specs.declared.rule.Rule.{Rule}
use Rattle.dubp_rules.specs.First.{IsFirst}
use Rattle.dubp_rules.proofs.FirstLaws.{FirstOf_determined, FirstOf_from_IsFirst}
use Rattle.dubp_chain.specs.declared.head.Head.{Head}
use Rattle.dubp_chain.specs.Chains.{Chain, params}
use Rattle.dubp_chain.specs.Heads.{heads_of, next_head}
use Rattle.dubp_head.specs.Following.{AreHeads, KeepsLimits, LimitHolds, limit_rules}
use Rattle.dubp_head.specs.HeadsStates.{HeadsState}
use Rattle.dubp_head.specs.Laws.{LimitOn, members_with}
use Rattle.dubp_head.specs.NextHead.{PassesLimit, without_dividend}
use Rattle.dubp_people_and_money.specs.OfKept.{IsKnown, IsSteered}
use Rattle.dubp_people_and_money.proofs.OfKept.{length_heads}
use Rattle.dubp_ledger.specs.Filling.{CanBeStated, IsStated}
use Rattle.dubp_forging.specs.Filled.{IsWithinLimits}
use Rattle.dubp_ledger.proofs.Headers.{head_in_range, without_in_range}

params_stay : (c : Chain) (b : Block) → 1 ≤ length c → params c ≡ params (b ∷ c)
params_stay [] b some = absurd (omega (arith, some))
params_stay (a ∷ c) b some = refl

pub steered_now : (c : Chain) → 1 ≤ length c → IsSteered c → IsInRange (params c)
steered_now [] some steered = absurd (omega (arith, some))
steered_now (a ∷ c) some steered = steered

module _ (c : Chain) (b : Block) (heads : HeadsState) (p : Params) (n : ℕ) (h : Head) (known : IsKnown c heads) (some : 1 ≤ length c) (same : p ≡ params c) (count : n ≡ members_with c b) where
  on_chain : (P : Params → ℕ → List Head → Type 0) → P p n heads.list → P (params (b ∷ c)) (members_with c b) (heads_of c)
  on_chain P x =
      subst (λ m. P (params (b ∷ c)) m (heads_of c)) count
      (subst (λ q. P q n (heads_of c)) (same ∙ params_stay c b some) (subst (P p n) known.are x))

  pub stated : h ≡ next_head p n heads.list b → KeepsLimits p n heads.list b → IsStated c b h
  stated is keeps =
      let here = on_chain (λ q m hs. KeepsLimits q m hs b) keeps in
      inl ((here.x03, (here.x04, here.x08)), on_chain (λ q m hs. h ≡ next_head q m hs b) is)

  fails : (rule : Rule) → IsFirst (LimitHolds p n heads.list b) limit_rules (Some rule) → IsWithinLimits c b → ⊥
  fails rule first within =
      let here = on_chain (λ q m hs. IsFirst (LimitHolds q m hs b) limit_rules (Some rule)) first in
      let both : None ≡ Some rule = FirstOf_determined (LimitOn c b) limit_rules None (Some rule) (FirstOf_from_IsFirst (LimitOn c b) limit_rules None (within.0, (within.1.0, (within.1.1, tt)))) (FirstOf_from_IsFirst (LimitOn c b) limit_rules (Some rule) here) in
      absurd cc

  pub stated_without : (rule : Rule) → PassesLimit p n heads.list b rule h → IsStated c b h
  stated_without rule passes = inr (fails rule passes.first, on_chain (λ q m hs. h ≡ without_dividend q m hs b) passes.head_is)

  valid : IsInRange p
  valid = subst IsInRange (sym same) (steered_now c some known.steered)

  follow : AreHeads p heads.list
  follow = subst (λ q. AreHeads q heads.list) (sym same) known.follow

  there : 1 ≤ length heads.list
  there = omega (arith, some, ap length known.are, length_heads c)

  pub range : n < 2 ^ 21 → h ≡ next_head p n heads.list b → KeepsLimits p n heads.list b → CanBeStated h
  range few is keeps = head_in_range p n heads.list b h there valid follow few keeps is

  pub range_without : n < 2 ^ 21 → (rule : Rule) → PassesLimit p n heads.list b rule h → CanBeStated h
  range_without few rule passes = without_in_range p n heads.list b h there valid follow few passes.head_is
