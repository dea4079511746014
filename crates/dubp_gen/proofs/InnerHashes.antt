-- Each block of a sound chain keeps L01.
use Rattle.std.proofs.Common.{[], ◌∷◌, refl}
use Rattle.std.specs.List.{AllByRecursion}
use Rattle.dubp_chain.specs.Chains.{Chain}
use Rattle.dubp_rules.specs.declared.rule.Rule.TheVariants.{L01}
use Rattle.dubp_validity.specs.LocalRules.{InnerHashIsRight}
use Rattle.dubp_validity.specs.Rules.{IsSound}

pub are_right : (c : Chain) → IsSound c → AllByRecursion InnerHashIsRight c
are_right [] sound = tt
are_right (b ∷ c) sound = (sound.0 L01 refl, are_right c sound.1)
