-- The laws of the definitions: more verdicts break no rule, a rule that is not read changes no answer, and money is conserved.
-- Protocol: rules, money.
use Rattle.std.specs.Prelude.{◌≡◌, ◌+◌, ◌↔◌, IsTrue, map, Option}
use Rattle.std.specs.Option.{MatchOption}
use Rattle.std.specs.Prelude.{⊤}
use Rattle.dubp_block.specs.declared.block.Block.{Block}
use Rattle.dubp_rules.specs.declared.rule.Rule.{Rule}
use Rattle.dubp_rules.specs.First.{IsFirst}
use Rattle.dubp_rules.specs.Table.{table_rules}
use Rattle.dubp_chain.specs.Words.{each_once}
use Rattle.dubp_chain.specs.Chains.{Chain}
use Rattle.dubp_chain.specs.Heads.{head_of, issued}
use Rattle.dubp_chain.specs.Money.{same_source, made_sources, unspent_units, cleared_units}
use Rattle.dubp_verdict.specs.Verdicts.{Verdicts, IsWithin}
use Rattle.dubp_validity.specs.Rules.{Holds, FirstBroken, WhereRead, IsValid, IsSound}

-- a rule that holds with some verdicts holds with more of them
abbrev pub Monotone : Type 0
Monotone = (v w : Verdicts) → IsWithin v w → (c : Chain) (b : Block) (rule : Rule) → Holds v c b rule → Holds w c b rule

-- so a chain that is valid with some verdicts is valid with more of them
abbrev pub StaysValid : Type 0
StaysValid = (v w : Verdicts) → IsWithin v w → (c : Chain) → IsValid v c → IsValid w c

-- a rule that is not read counts as holding, which changes no first rule
abbrev pub ReadingChangesNothing : Type 0
ReadingChangesNothing = (v : Verdicts) (c : Chain) (b : Block) (answer : Option Rule) → FirstBroken v c b answer ↔ IsFirst (WhereRead (Holds v c b)) table_rules answer

-- the money that was issued is unspent or cleared, it is the mass, and no source was made twice
pub record IsConserved (c : Chain) : Type 0 where
  pub units : issued c ≡ unspent_units c + cleared_units c
  pub mass : MatchOption (head_of c) ⊤ (λ h. h.mass ≡ issued c)
  pub once : IsTrue (each_once same_source (map (λ s. s.id) (made_sources c)))

-- where each block keeps, on the blocks before it, the rules that read no verdict
abbrev pub Conserves : Type 0
Conserves = (c : Chain) → IsSound c → IsConserved c

-- and so on each valid chain
abbrev pub ValidIsSound : Type 0
ValidIsSound = (v : Verdicts) (c : Chain) → IsValid v c → IsSound c
