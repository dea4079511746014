use Rattle.std.proofs.Common.{sym, arith}
use Rattle.dubp_undo.proofs.Turned.{pushed, counted, length_turned, may_begin}
use Rattle.dubp_undo.proofs.found.FoundTables.hold.Goals as goal

pub hold-requires-clause-past : goal.hold-requires-clause-past
hold-requires-clause-past g c = let long = length_turned c.args.self.now.table.first c.args.self.now.table.past in omega (arith, long, c.requires.past)

pub hold-requires-clause-begins : goal.hold-requires-clause-begins
hold-requires-clause-begins g c = may_begin g.F.Finder.cmp g.D.Definition.at _ _ _ c.requires.begins

pub returns-clause-kept : goal.returns-clause-kept
returns-clause-kept g c = pushed _ _ _ _ _ _ (sym c.hold.ensures.first) c.hold.ensures.past

pub returns-clause-ahead : goal.returns-clause-ahead
returns-clause-ahead g c = let is = counted c.args.self.now.table.first _ _ _ _ c.hold.ensures.past in rw is c.hold.ensures.ahead

pub returns-clause-steps : goal.returns-clause-steps
returns-clause-steps g c = let is = counted c.args.self.now.table.first _ _ _ _ c.hold.ensures.past in omega (arith, is, c.hold.ensures.steps)
