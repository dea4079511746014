-- What is asked of a block: every rule where it is signed; and where it is not signed yet, all but the two that it keeps once it is.
-- Protocol: rules; forging.
use Rattle.std.specs.Prelude.{List, ⊤}
use Rattle.dubp_block.specs.declared.block.Block.{Block}
use Rattle.dubp_rules.specs.declared.rule.Rule.{Rule}
use Rattle.dubp_rules.specs.declared.rule.Rule.TheVariants.{L05, G62}
use Rattle.dubp_verdict.specs.Verdicts.{Verdicts}
use Rattle.dubp_chain.specs.Chains.{Chain}
use Rattle.dubp_validity.specs.Rules.{Holds}
use Rattle.dubp_kept.specs.OfLocal.{Asked}
use Rattle.dubp_kept.specs.OfLocal.{Signed, Unsigned}
use Rattle.dubp_head.specs.NextHead.{header_rules, stated_rules}

-- what is said of a signed block alone
abbrev pub WhereSigned : Asked → Type 0 → Type 0
WhereSigned Signed P = P
WhereSigned Unsigned P = ⊤

-- what each rule says of the block, the two where it is signed
abbrev pub Asks : Asked → Verdicts → Chain → Block → Rule → Type 0
Asks asked v c b L05 = WhereSigned asked (Holds v c b L05)
Asks asked v c b G62 = WhereSigned asked (Holds v c b G62)
Asks asked v c b rule = Holds v c b rule

-- the rules on the header that are asked
abbrev pub asked_header : Asked → List Rule
asked_header Signed = header_rules
asked_header Unsigned = stated_rules
