use Rattle.std.proofs.Common.{◌∷◌, []}
use Rattle.dubp_sindex.specs.States.{rows_of}
use Rattle.dubp_sindex.proofs.sindex.SIndexTablesSourceRows.again.Goals as goal

pub again-requires-clause-begins : goal.again-requires-clause-begins
again-requires-clause-begins g c =
    let w = c.requires.begins in
    ((c.args.self.now.origins, rows_of w.0) ∷ [], (w.1.0.0, w.1.1.0))
