-- The local rules as they are read: L24 apart, for which hashes are made, and L05 where it is asked for.
use Rattle.std.specs.Prelude.{List, [], ◌∷◌, Option, ⊤}
use Rattle.dubp_params.specs.declared.params.Params.{Params}
use Rattle.dubp_block.specs.declared.block.Block.{Block}
use Rattle.dubp_rules.specs.declared.rule.Rule.{Rule}
use Rattle.dubp_rules.specs.declared.rule.Rule.TheVariants.{X02, X07, L01, L02, L03, L04, L05, L06, L07, L08, L09, L10, L11, L12, L13, L14, L15, L16, L17, L18, L19, L20, L21, L22, L23}
use Rattle.dubp_rules.specs.First.{FirstOf}
use Rattle.dubp_verdict.specs.Verdicts.{Verdicts}
use Rattle.dubp_validity.specs.OfChain.{Chain}
use Rattle.dubp_validity.specs.LocalRules.{BlockIsSigned}
use Rattle.dubp_validity.specs.Rules.{Holds}
use Rattle.dubp_local.specs.declared.check.Asked.{Asked}
use Rattle.dubp_local.specs.declared.check.Asked.TheVariants.{Signed, Unsigned}
use Rattle.dubp_local.specs.Local.{AreParamsOf, local_rules, unsigned_rules}

-- the rules that are asked
abbrev pub asked_rules : Asked → List Rule
asked_rules Signed = local_rules
asked_rules Unsigned = unsigned_rules

abbrev pub rules_before_l24 : List Rule
rules_before_l24 = X02 ∷ X07 ∷ L01 ∷ L02 ∷ L03 ∷ L04 ∷ L05 ∷ L06 ∷ L07 ∷ L08 ∷ L09 ∷ L10 ∷ L11 ∷ L12 ∷ L13 ∷ L14 ∷ L15 ∷ L16 ∷ L17 ∷ L18 ∷ L19 ∷ L20 ∷ L21 ∷ L22 ∷ L23 ∷ []

abbrev pub IsSignedWhereAsked : Asked → Verdicts → Block → Type 0
IsSignedWhereAsked Signed v b = BlockIsSigned v b
IsSignedWhereAsked Unsigned v b = ⊤

-- what each rule says of a block, with L05 where it is asked for
abbrev pub Asks : Asked → Verdicts → Chain → Block → Rule → Type 0
Asks asked v c b L05 = IsSignedWhereAsked asked v b
Asks asked v c b rule = Holds v c b rule

-- what is found down the rules on each chain that has these parameters
abbrev pub FirstAsked : List Rule → Asked → Verdicts → Option Params → Block → Option Rule → Type 0
FirstAsked rules asked v p b broken = (c : Chain) → AreParamsOf p c → FirstOf (Asks asked v c b) rules broken
