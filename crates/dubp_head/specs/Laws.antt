-- The heads of a chain follow one another, and what is said here of a block's head is what the rules of `dubp_validity` say.
-- Protocol: head values; rules.
use Rattle.std.specs.Prelude.{ℕ, ◌∷◌, Option, length, ◌↔◌}
use Rattle.std.specs.List.{AllByRecursion}
use Rattle.dubp_block.specs.declared.block.Block.{Block}
use Rattle.dubp_rules.specs.declared.rule.Rule.{Rule}
use Rattle.dubp_rules.specs.First.{IsFirst}
use Rattle.dubp_verdict.specs.Verdicts.{Verdicts}
use Rattle.dubp_chain.specs.declared.head.Head.{Head}
use Rattle.dubp_chain.specs.Chains.{Chain, params}
use Rattle.dubp_chain.specs.Members.{members}
use Rattle.dubp_chain.specs.Heads.{heads_of, next_head}
use Rattle.dubp_validity.specs.Rules.{Holds}
use Rattle.dubp_head.specs.Following.{AreHeads, MayFollow, KeepsLimits, LimitHolds, limit_rules}
use Rattle.dubp_head.specs.NextHead.{HeaderHolds, header_rules}

-- how many members the chain has with the block
abbrev pub members_with : Chain → Block → ℕ
members_with c b = length (members (b ∷ c))

abbrev pub head_with : Chain → Block → Head
head_with c b = next_head (params (b ∷ c)) (members_with c b) (heads_of c) b

-- what a limit, and what a rule on the header, says of a block on a chain
abbrev pub LimitOn : Chain → Block → Rule → Type 0
LimitOn c b rule = LimitHolds (params (b ∷ c)) (members_with c b) (heads_of c) b rule

abbrev pub HeaderOn : Chain → Block → Rule → Type 0
HeaderOn c b rule = HeaderHolds (params (b ∷ c)) (heads_of c) (head_with c b) b rule

-- the heads of a chain follow one another with one block more
abbrev pub HeadsFollow : Type 0
HeadsFollow = (c : Chain) (b : Block)
    → AreHeads (params (b ∷ c)) (heads_of c)
    → MayFollow (members_with c b) (heads_of c) b
    → KeepsLimits (params (b ∷ c)) (members_with c b) (heads_of c) b
    → AreHeads (params (b ∷ c)) (heads_of (b ∷ c))

-- each limit is the rule of its name, and so is each rule on the header
abbrev pub LimitsAreRules : Type 0
LimitsAreRules = (v : Verdicts) (c : Chain) (b : Block) → AllByRecursion (λ rule. LimitOn c b rule ↔ Holds v c b rule) limit_rules

abbrev pub HeaderIsRules : Type 0
HeaderIsRules = (v : Verdicts) (c : Chain) (b : Block) → AllByRecursion (λ rule. HeaderOn c b rule ↔ Holds v c b rule) header_rules

-- so the first that fails is the same
abbrev pub FirstLimitIsRule : Type 0
FirstLimitIsRule = (v : Verdicts) (c : Chain) (b : Block) (answer : Option Rule)
    → IsFirst (LimitOn c b) limit_rules answer ↔ IsFirst (Holds v c b) limit_rules answer

abbrev pub FirstHeaderIsRule : Type 0
FirstHeaderIsRule = (v : Verdicts) (c : Chain) (b : Block) (answer : Option Rule)
    → IsFirst (HeaderOn c b) header_rules answer ↔ IsFirst (Holds v c b) header_rules answer
