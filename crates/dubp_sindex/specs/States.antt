-- The index along a chain of states, newest first: each state is the rows that stand after a block. Each of its three tables is a
-- function of the newest rows, and of the numbers that their origins have. Protocol: money.
use Rattle.std.specs.Prelude.{ℕ, List, [], Option}
use Rattle.dubp_undo.specs.States.{newest}
use Rattle.dubp_sindex.specs.declared.origins.Name.{Name}
use Rattle.dubp_sindex.specs.declared.rows.LinkedRow.{LinkedRow}
use Rattle.dubp_sindex.specs.declared.rows.Balance.{Balance}
use Rattle.dubp_sindex.specs.Rows.{Entry}
use Rattle.dubp_sindex.specs.Origins.{OriginTexts, no_origins}
use Rattle.dubp_sindex.specs.Derived.{place_at, linked_at, balance_at}

abbrev pub States : Type 0
States = List (List Entry)

-- the rows after the last block; before the first there are none
abbrev pub rows_of : States → List Entry
rows_of s = newest [] s

-- a state of the tables: the rows, and the origins that have a number
abbrev pub TableState : Type 0
TableState = OriginTexts × List Entry

abbrev pub table_state : List TableState → TableState
table_state s = newest (no_origins, []) s

abbrev pub names_of : List TableState → Name → Option ℕ
names_of s name = place_at (table_state s).0 name (table_state s).1

abbrev pub linked_of : List TableState → ℕ → Option LinkedRow
linked_of s place = linked_at (table_state s).0 place (table_state s).1

abbrev pub balances_of : List TableState → ℕ → Option Balance
balances_of s account = balance_at account (table_state s).1
