use Rattle.std.proofs.Common.{sym, arith}
use Rattle.dubp_undo.proofs.Turned.{pushed, counted, length_turned}
use Rattle.dubp_undo.proofs.found.FoundTables.back.Goals as goal

pub back-requires : goal.back-requires
back-requires g c = let long = length_turned c.args.self.now.table.first c.args.self.now.table.past in omega (arith, long, c.requires)

pub returns-clause-kept : goal.returns-clause-kept
returns-clause-kept g c = pushed _ _ _ _ _ _ (sym c.back.ensures.first) c.back.ensures.past

pub returns-clause-steps : goal.returns-clause-steps
returns-clause-steps g c = let is = counted c.args.self.now.table.first _ _ _ _ c.back.ensures.past in omega (arith, is, c.back.ensures.steps)
