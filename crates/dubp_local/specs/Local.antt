-- The rules that a block is checked against by itself, in the order in which they are read, and the first that fails. Protocol:
-- rules.
use Rattle.std.specs.Prelude.{◌≡◌, Bool, true, false, not, List, [], ◌∷◌, map, filter, Option, None, Some}
use Rattle.dubp_params.specs.declared.params.Params.{Params}
use Rattle.dubp_docs.specs.Hashes.{hashes_of}
use Rattle.dubp_docs.specs.declared.hashing.TxHashes.{TxHashes}
use Rattle.dubp_block.specs.declared.block.Block.{Block}
use Rattle.dubp_rules.specs.declared.rule.Rule.{Rule}
use Rattle.dubp_rules.specs.declared.rule.Rule.TheVariants.{X02, X07, L01, L02, L03, L04, L05, L06, L07, L08, L09, L10, L11, L12, L13, L14, L15, L16, L17, L18, L19, L20, L21, L22, L23, L24}
use Rattle.dubp_rules.specs.First.{IsFirst}
use Rattle.dubp_verdict.specs.Verdicts.{Verdicts}
use Rattle.dubp_validity.specs.OfChain.{Chain, params}
use Rattle.dubp_validity.specs.Rules.{Holds}

-- the local rules, in the order of the table
abbrev pub local_rules : List Rule
local_rules = X02 ∷ X07 ∷ L01 ∷ L02 ∷ L03 ∷ L04 ∷ L05 ∷ L06 ∷ L07 ∷ L08 ∷ L09 ∷ L10 ∷ L11 ∷ L12 ∷ L13 ∷ L14 ∷ L15 ∷ L16 ∷ L17 ∷ L18 ∷ L19 ∷ L20 ∷ L21 ∷ L22 ∷ L23 ∷ L24 ∷ []

-- the same without the rule on the signature of the block, which a block that is not signed yet cannot keep
abbrev pub is_signature_rule : Rule → Bool
is_signature_rule L05 = true
is_signature_rule rule = false

abbrev pub unsigned_rules : List Rule
unsigned_rules = filter (λ rule. not (is_signature_rule rule)) local_rules

-- these are the parameters of the chain; the empty chain has none
abbrev pub AreParamsOf : Option Params → Chain → Type 0
AreParamsOf None c = c ≡ []
AreParamsOf (Some p) [] = ⊥
AreParamsOf (Some p) (a ∷ c) = p ≡ params (a ∷ c)

-- the first local rule that the block breaks on each chain that has these parameters, or none
abbrev pub FirstLocal : List Rule → Verdicts → Option Params → Block → Option Rule → Type 0
FirstLocal rules v p b broken = (c : Chain) → AreParamsOf p c → IsFirst (Holds v c b) rules broken

-- the two hashes of each transaction, in order
abbrev pub all_hashes : Block → List TxHashes
all_hashes b = map (hashes_of b.currency) b.transactions
