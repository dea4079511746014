-- What the tables beside the sources have: the hashes of the transactions of a chain, and its totals. Protocol: tables.
use Rattle.std.specs.Prelude.{Option, Some, None, option_map, length, if◌then◌else◌}
use Rattle.dubp_atoms.specs.Same.{Text}
use Rattle.dubp_chain.specs.Chains.{Chain}
use Rattle.dubp_chain.specs.Heads.{issued}
use Rattle.dubp_chain.specs.Money.{made_sources, unspent_units, cleared_units}
use Rattle.dubp_chain.specs.Tables as chain
use Rattle.dubp_chain.specs.Tables.{has_transaction, totals}
use Rattle.dubp_money.specs.declared.money.Totals.{Totals}

abbrev pub transaction_at : Chain → Text → Option (Unit {0})
transaction_at c hash = if has_transaction c hash then Some tt else None

-- the totals of the definition, as the table has them
abbrev pub totals_entry : chain.Totals → Totals
totals_entry t = record { issued = t.issued; unspent = t.unspent; cleared = t.cleared; made = t.made }

abbrev pub totals_at : Chain → Unit {0} → Option Totals
totals_at c k = option_map totals_entry (totals c)

-- the totals, each of which is 0 where the chain is empty
abbrev pub totals_of : Chain → Totals
totals_of c = record { issued = issued c; unspent = unspent_units c; cleared = cleared_units c; made = length (made_sources c) }
