use Rattle.dubp_undo.specs.States.{states}
use Rattle.dubp_sindex.specs.Accounts.{accounts}
use Rattle.dubp_sindex.specs.contracts.sindex.SIndexTablesSourceRows.TheImpl as tables
use Rattle.dubp_money_steps.specs.Left.{sources_left}
use Rattle.dubp_money.proofs.Growing.{stays_along}
use Rattle.dubp_money.proofs.writing.write_sources.Goals as goal

pub returns-clause-stays : goal.returns-clause-stays
returns-clause-stays g c = λ n chain is.
    let old = c.args.sources.now.index in
    let new = c.write_index.new.index in
    stays_along ((tables.ghosts).is ((tables.ghosts).names new) n) (accounts old) (accounts new) c.write_index.ensures.texts chain
    (is.0, c.write_index.ensures.stays n (states (sources_left (accounts old)) chain) is.1)
