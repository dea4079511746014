-- Sources that are made behind others. Protocol: money.
use Rattle.std.specs.Prelude.{ℕ, ◌+◌, ◌^◌, ◌<◌, ◌≤◌, IsTrue, List, ◌++◌, map, length, sum_by}
use Rattle.std.specs.List.{AllByRecursion, enumerate_from}
use Rattle.dubp_atoms.specs.Same.{Text}
use Rattle.dubp_cond.specs.Tree.{CondTree}
use Rattle.dubp_cond.specs.declared.tx.Tx.{Tx}
use Rattle.dubp_chain.specs.Money.{Source, output_source, dividend_source, units_of}
use Rattle.dubp_sindex.specs.Rows.{Entry, each_once, same_source, units_of_entry}
use Rattle.dubp_money.specs.declared.making.NewSource.{NewSource}
use Rattle.dubp_money.specs.declared.paying.Payment.{Payment}
use Rattle.dubp_money_steps.specs.Left.{account_in, entries_of, IsSmall}

-- the source that is made with this condition
abbrev pub source_of : NewSource → CondTree → Source
source_of source cond = record { id = source.id; amount = source.amount; base = source.base; cond = cond; time = source.made_at }

-- the outputs of a transaction of this hash, made at this time
abbrev pub outputs_at : ℕ → Text → Tx → List Source
outputs_at time hash tx = map (output_source time hash) (enumerate_from 0 tx.outputs)

-- the sources can be made behind the rows, from this place on in the order of making
pub record CanFollow (rows : List Entry) (order : ℕ) (made : List Source) : Type 0 where
  pub apart : IsTrue (each_once same_source (map (λ (e : Entry). e.0) rows ++ map (λ (s : Source). s.id) made))
  pub behind : AllByRecursion (λ (e : Entry). e.1.order < order) rows
  pub small : AllByRecursion IsSmall made
  pub few : order + length made ≤ 2 ^ 63
  pub fits : sum_by units_of_entry rows + sum_by units_of made < 2 ^ 128

-- and are rows then, where the texts number their conditions
abbrev pub with_made : List Text → List Entry → ℕ → List Source → List Entry
with_made texts rows order made = rows ++ entries_of (account_in texts) (enumerate_from order made)

-- the dividends that a block pays to these members
abbrev pub dividends_to : Payment → List Text → List Source
dividends_to p keys = map (dividend_source p.time p.number p.amount p.base) keys
