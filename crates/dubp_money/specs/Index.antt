-- The index of sources while a block is written: the rows that it has, and the chain that it stands for. Protocol: money.
use Rattle.std.specs.Prelude.{List, [], ◌∷◌}
use Rattle.dubp_undo.specs.States.{states}
use Rattle.dubp_chain.specs.Chains.{Chain}
use Rattle.dubp_sindex.specs.declared.sindex.SIndex.{SIndex}
use Rattle.dubp_sindex.specs.contracts.sindex.SIndexTablesSourceRows.TheImpl as tables
use Rattle.dubp_sindex.specs.Accounts.{accounts}
use Rattle.dubp_sindex.specs.Rows.{Entry}
use Rattle.dubp_sindex.specs.States.{States}
use Rattle.dubp_money_steps.specs.Left.{sources_left}
use Rattle.dubp_money.specs.Texts.{Fits}

-- its tables are those of the rows
abbrev pub HasRows : SIndex → List Entry → Type 0
HasRows i rows = (tables.ghosts).at i (rows ∷ [])

-- what a state is by the names of the one, it is by those of the other
abbrev pub Stays : SIndex → SIndex → Type 0
Stays old new = (n : (tables.ghosts).Now) (s : States) → (tables.ghosts).is ((tables.ghosts).names old) n s → (tables.ghosts).is ((tables.ghosts).names new) n s

-- its tables are those of the rows that each block of the chain leaves, and its accounts number the conditions
abbrev pub StandsFor : SIndex → Chain → Type 0
StandsFor i c = Fits (accounts i) c × (tables.ghosts).at i (states (sources_left (accounts i)) c)
