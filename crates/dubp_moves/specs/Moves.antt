-- The moves of a condition: what made, spent and cleared its sources, block by block, and what it has behind each. Protocol: statements.
use Rattle.std.specs.Prelude.{ℕ, ◌+◌, ◌-◌, Bool, List, [], ◌∷◌, ◌++◌, map, filter}
use Rattle.std.specs.List.{list_any, flat_map}
use Rattle.dubp_verdict.specs.OfAtoms.{Text, same_text}
use Rattle.dubp_chain.specs.OfBlock.{Block}
use Rattle.dubp_chain.specs.OfCond.{SourceId, Input, cond_text}
use Rattle.dubp_chain.specs.Chains.{Chain}
use Rattle.dubp_chain.specs.Money.{Source, same_source, made_sources}
use Rattle.dubp_validity.specs.LocalRules.{input_units}
use Rattle.dubp_validity.specs.Records.{records}
use Rattle.dubp_validity.specs.declared.record.Record.{Record}
use Rattle.dubp_validity.specs.declared.record.Record.TheVariants.{Spend, Make, Dividend, Clear}
use Rattle.dubp_moves.specs.declared.moves.Kind.{Kind}
use Rattle.dubp_moves.specs.declared.moves.Kind.TheVariants.{Made, Spent, Cleared}
use Rattle.dubp_moves.specs.declared.moves.Move.{Move}

-- what a record tells of a source: what happened to it, and its name, amount and base
pub record Change : Type 0 where
  pub kind : Kind
  pub input : Input

abbrev pub told_by : Record → List Change
told_by (Make input cond) = record { kind = Made; input = input } ∷ []
told_by (Dividend input) = record { kind = Made; input = input } ∷ []
told_by (Spend input) = record { kind = Spent; input = input } ∷ []
told_by (Clear input) = record { kind = Cleared; input = input } ∷ []
told_by other = []

-- what the records of b on c tell of sources, in order
abbrev pub changes_in : Chain → Block → List Change
changes_in c b = flat_map told_by (records c b)

-- the names of those of the sources that have the condition of this text
abbrev pub names_with : Text → List Source → List SourceId
names_with cond sources = map (λ s. s.id) (filter (λ s. same_text cond (cond_text s.cond)) sources)

-- about a source of one of these names
abbrev pub is_about : List SourceId → Change → Bool
is_about names x = list_any (λ name. same_source name x.input.source) names

-- the balance behind a change: what is made is added, and what is spent or cleared is taken away
abbrev pub balance_behind : ℕ → Kind → Input → ℕ
balance_behind balance Made input = balance + input_units input
balance_behind balance Spent input = balance - input_units input
balance_behind balance Cleared input = balance - input_units input

abbrev pub move_of : ℕ → ℕ → Change → Move
move_of number balance x = record {
  number = number;
  kind = x.kind;
  amount = x.input.amount;
  base = x.input.base;
  source = x.input.source;
  balance = balance;
}

-- the changes in the block of this number as moves, from this balance on
abbrev pub with_balances : ℕ → ℕ → List Change → List Move
with_balances number balance [] = []
with_balances number balance (x ∷ xs) =
    let behind = balance_behind balance x.kind x.input in
    move_of number behind x ∷ with_balances number behind xs

-- the balance behind the last of some moves, of which the first stands behind this balance
abbrev pub last_balance : ℕ → List Move → ℕ
last_balance balance [] = balance
last_balance balance (m ∷ ms) = last_balance m.balance ms

-- block by block, the changes of the sources of these names, with a running sum
abbrev pub moves_about : List SourceId → Chain → List Move
moves_about names [] = []
moves_about names (b ∷ c) =
    let before = moves_about names c in
    before ++ with_balances b.number (last_balance 0 before) (filter (is_about names) (changes_in c b))

-- the moves of the condition of this text
abbrev pub moves_of : Chain → Text → List Move
moves_of c cond = moves_about (names_with cond (made_sources c)) c
