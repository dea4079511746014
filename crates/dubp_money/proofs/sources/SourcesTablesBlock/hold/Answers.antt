use Rattle.dubp_undo.specs.States.{states}
use Rattle.dubp_sindex.specs.Accounts.{accounts}
use Rattle.dubp_money_steps.specs.Left.{sources_left}
use Rattle.dubp_money.proofs.sources.SourcesTablesBlock.hold.Goals as goal

pub hold-requires-clause-begins : goal.hold-requires-clause-begins
hold-requires-clause-begins g c = λ some.
    let w = c.requires.begins some in
    (states (sources_left (accounts c.args.self.now.index)) w.0, (w.1.0.1, w.1.1.1))
