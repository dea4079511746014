-- What the transactions of a block make of rows, one after the other. Protocol: money.
use Rattle.std.specs.Prelude.{ℕ, ◌+◌, List, ◌++◌, map, fold, length}
use Rattle.std.specs.List.{flat_map}
use Rattle.dubp_atoms.specs.Same.{Text}
use Rattle.dubp_cond.specs.declared.tx.Tx.{Tx}
use Rattle.dubp_chain.specs.Money.{Source, outputs_made}
use Rattle.dubp_validity.specs.declared.record.Record.{Record}
use Rattle.dubp_validity.specs.declared.record.Record.TheVariants.{Spend}
use Rattle.dubp_validity.specs.Records.{make_record}
use Rattle.dubp_sindex.specs.Rows.{Entry}
use Rattle.dubp_money.specs.Writing.{without_inputs}
use Rattle.dubp_money.specs.Making.{outputs_at, with_made}

-- the outputs of some transactions
abbrev pub all_outputs : ℕ → Text → List Tx → List Source
all_outputs time currency txs = flat_map (outputs_made time currency) txs

-- the records of a transaction of this hash, made at this time
abbrev pub records_at : ℕ → Text → Tx → List Record
records_at time hash tx = map Spend tx.inputs ++ map make_record (outputs_at time hash tx)

-- the records of a transaction of this currency
abbrev pub records_of : ℕ → Text → Tx → List Record
records_of time currency tx = map Spend tx.inputs ++ map make_record (outputs_made time currency tx)

-- A transaction takes what its inputs name, and puts its outputs behind the others, counted on.
abbrev pub written : List Text → ℕ → Text → ℕ × List Entry → Tx → ℕ × List Entry
written texts time currency state tx = (
  state.0 + length (outputs_made time currency tx),
  with_made texts (without_inputs tx.inputs state.1) state.0 (outputs_made time currency tx),
)

abbrev pub all_written : List Text → ℕ → Text → ℕ → List Entry → List Tx → ℕ × List Entry
all_written texts time currency order rows txs = fold (written texts time currency) (order, rows) txs
