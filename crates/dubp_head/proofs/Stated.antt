-- The first of the rules on the header, from the first of those on what it states, and the rule on the difficulty behind them.
use Rattle.std.proofs.Common.{inl, [], ◌∷◌, Option, Some, None, refl}
use Rattle.dubp_rules.specs.declared.rule.Rule.{Rule}
use Rattle.dubp_rules.specs.declared.rule.Rule.TheVariants.{G62}
use Rattle.dubp_rules.specs.First.{FirstOf, IsFirst}
use Rattle.dubp_rules.proofs.FirstLaws.{IsFirst_from_FirstOf, FirstOf_from_IsFirst, FirstOf_append_found, FirstOf_append_none}
use Rattle.dubp_head.specs.NextHead.{header_rules, stated_rules}

module _ (Hold : Rule → Type 0) where
  pub stated_breaks : (r : Rule) → IsFirst Hold stated_rules (Some r) → IsFirst Hold header_rules (Some r)
  stated_breaks r f =
      IsFirst_from_FirstOf Hold header_rules (Some r) (FirstOf_append_found Hold stated_rules (G62 ∷ []) r (FirstOf_from_IsFirst Hold stated_rules (Some r) f))

  behind_stated : (answer : Option Rule) → IsFirst Hold stated_rules None → FirstOf Hold (G62 ∷ []) answer → IsFirst Hold header_rules answer
  behind_stated answer f g =
      IsFirst_from_FirstOf Hold header_rules answer (FirstOf_append_none Hold stated_rules (G62 ∷ []) answer (FirstOf_from_IsFirst Hold stated_rules None f) g)

  pub difficulty_breaks : IsFirst Hold stated_rules None → ¬ Hold G62 → IsFirst Hold header_rules (Some G62)
  difficulty_breaks f fails = behind_stated (Some G62) f (inl (refl, fails))

  pub difficulty_holds : IsFirst Hold stated_rules None → Hold G62 → IsFirst Hold header_rules None
  difficulty_holds f holds = behind_stated None f (holds, tt)
