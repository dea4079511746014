use Rattle.std.proofs.Common.{◌∙◌, sym, arith}
use Rattle.dubp_undo.proofs.Turned.{pushed, length_turned, last_is}
use Rattle.dubp_undo.proofs.found.FoundTables.unmark.Goals as goal

pub unmark-requires-clause-past : goal.unmark-requires-clause-past
unmark-requires-clause-past g c = let long = length_turned c.args.self.now.table.first c.args.self.now.table.past in omega (arith, long, c.requires.past)

pub unmark-requires-clause-fresh : goal.unmark-requires-clause-fresh
unmark-requires-clause-fresh g c =
    let long = length_turned c.args.self.now.table.first c.args.self.now.table.past in
    sym (last_is c.args.self.now.table.first c.args.self.now.table.past (omega (arith, long, c.requires.past))) ∙ c.requires.fresh

pub returns-clause-kept : goal.returns-clause-kept
returns-clause-kept g c = rw c.unmark.ensures.now (pushed _ _ _ _ _ 0 (sym c.unmark.ensures.first) c.unmark.ensures.past)
