use Rattle.std.proofs.Common.{◌∷◌, []}
use Rattle.dubp_sindex.specs.States.{rows_of}
use Rattle.dubp_sindex.proofs.sindex.SIndexTablesSourceRows.hold.Goals as goal

pub hold-requires-clause-begins : goal.hold-requires-clause-begins
hold-requires-clause-begins g c = λ some.
    let w = c.requires.begins some in
    ((c.args.self.now.origins, rows_of w.0) ∷ [], (w.1.0.0, w.1.1.0))
