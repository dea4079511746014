-- The first rule that a block breaks that is not signed yet. Protocol: rules; forging.
use Rattle.std.specs.Prelude.{◌≤◌, Bool, true, false, not, List, length, filter, Option}
use Rattle.dubp_chain.specs.OfBlock.{Block}
use Rattle.dubp_chain.specs.OfBlock.{block_text}
use Rattle.dubp_rules.specs.declared.rule.Rule.{Rule}
use Rattle.dubp_rules.specs.declared.rule.Rule.TheVariants.{X01, L05, G62}
use Rattle.dubp_rules.specs.First.{IsFirst}
use Rattle.dubp_rules.specs.Table.{table_rules}
use Rattle.dubp_chain.specs.Chains.{Chain}
use Rattle.dubp_verdict.specs.Verdicts.{Verdicts}
use Rattle.dubp_validity.specs.Rules.{Holds, longest_block}

-- a block keeps these two once it is signed
abbrev pub is_of_sealing : Rule → Bool
is_of_sealing L05 = true
is_of_sealing G62 = true
is_of_sealing rule = false

-- all others, in the order of the table
abbrev pub draft_rules : List Rule
draft_rules = filter (λ rule. not (is_of_sealing rule)) table_rules

-- what each rule says of a block whose text is written
abbrev pub HoldsWritten : Verdicts → Chain → Block → Rule → Type 0
HoldsWritten v c b X01 = length (block_text b) ≤ longest_block
HoldsWritten v c b rule = Holds v c b rule

-- the first of them that the block breaks on the chain, or none
abbrev pub FirstBad : Verdicts → Chain → Block → Option Rule → Type 0
FirstBad v c b found = IsFirst (HoldsWritten v c b) draft_rules found
