use Rattle.dubp_undo.specs.States.{states}
use Rattle.dubp_sindex.specs.Accounts.{accounts}
use Rattle.dubp_money_steps.specs.Left.{sources_left}
use Rattle.dubp_money.proofs.sources.SourcesTablesBlock.again.Goals as goal

pub again-requires-clause-begins : goal.again-requires-clause-begins
again-requires-clause-begins g c =
    let w = c.requires.begins in
    (states (sources_left (accounts c.args.self.now.index)) w.0, (w.1.0.1, w.1.1.1))
