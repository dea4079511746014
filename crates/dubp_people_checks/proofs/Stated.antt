-- The parameters of the chain with a block that stands to be judged are in range, or there are none.
use Rattle.std.proofs.Common.{◌≡◌, ◌≤◌, ◌⊎◌, inl, inr, [], ◌∷◌, Option, Some, None, refl, sym, subst, arith}
use Rattle.std.specs.Prelude.{unwrap_or, ⊤}
use Rattle.std.specs.Option.{MatchOption}
use Rattle.dubp_block.specs.declared.block.Block.{Block}
use Rattle.dubp_chain.specs.Chains.{Chain, params, no_params}
use Rattle.dubp_params.specs.Ranges.{IsInRange}
use Rattle.dubp_params.specs.declared.params.Params.{Params}
use Rattle.dubp_rules.specs.declared.rule.Rule.TheVariants.{X02}
use Rattle.dubp_people_after.specs.OfValidity.{IsSound}
use Rattle.dubp_people_after.specs.OfLeft.{IsAsked}
use Rattle.dubp_people_after.specs.OfLeft.{Next}
use Rattle.dubp_people_distance.specs.Stated.{AreStated}

-- they are in range, or there are none
abbrev IsRanged : Params → Type 0
IsRanged p = IsInRange p ⊎ (p ≡ no_params)

of_first : (o : Option Params) (low : Params → Type 0) → MatchOption o ⊤ (λ p. IsInRange p × low p) → IsRanged (unwrap_or o no_params)
of_first None low range = inr refl
of_first (Some p) low range = inl range.0

sound_params : (c : Chain) → IsSound c → IsRanged (params c)
sound_params [] sound = inr refl
sound_params (b ∷ []) sound = of_first b.params (λ _. b.pow_min ≤ 1023) (sound.0 X02 refl)
sound_params (b ∷ a ∷ c) sound = sound_params (a ∷ c) sound.1

asked_params : (c : Chain) (b : Block) (next : Next) → IsAsked c b next → IsRanged (params (b ∷ c))
asked_params [] b next asked = of_first b.params (λ _. b.pow_min ≤ 1023) (asked.before X02 refl (omega arith))
asked_params (a ∷ c) b next asked = sound_params (a ∷ c) asked.sound

pub params_stated : (c : Chain) (b : Block) (next : Next) → IsAsked c b next → (p : Params) → p ≡ params (b ∷ c) → AreStated p
params_stated c b next asked p e = subst AreStated (sym e) (by (params (b ∷ c)) (asked_params c b next asked))
  where
    by : (q : Params) → IsRanged q → AreStated q
    by q (inl range) = inl (range.step_max.0, range.step_max.1)
    by q (inr none) = inr none
