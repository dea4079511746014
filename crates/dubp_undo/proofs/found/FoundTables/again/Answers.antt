use Rattle.std.proofs.Common.{arith}
use Rattle.dubp_undo.proofs.Turned.{pushed, counted, same_values}
use Rattle.dubp_undo.proofs.found.FoundTables.again.Goals as goal

pub again-requires-clause-begins : goal.again-requires-clause-begins
again-requires-clause-begins g c = same_values g.F.Finder.cmp g.D.Definition.at _ _ _ c.requires.begins.1.0 c.requires.begins.1.1

pub returns-clause-kept : goal.returns-clause-kept
returns-clause-kept g c = pushed _ _ _ _ _ _ c.again.ensures.first c.again.ensures.past

pub returns-clause-ahead : goal.returns-clause-ahead
returns-clause-ahead g c = let is = counted c.again.new.self.first _ _ _ _ c.again.ensures.past in rw is c.again.ensures.ahead

pub returns-clause-steps : goal.returns-clause-steps
returns-clause-steps g c = let is = counted c.again.new.self.first _ _ _ _ c.again.ensures.past in omega (arith, is, c.again.ensures.steps)
