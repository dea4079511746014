use Rattle.std.proofs.Common.{arith}
use Rattle.dubp_undo.proofs.Turned.{dropped, drops, length_turned}
use Rattle.dubp_undo.proofs.found.FoundTables.drop_oldest.Goals as goal

pub drop_oldest-requires : goal.drop_oldest-requires
drop_oldest-requires g c = let long = length_turned c.args.self.now.table.first c.args.self.now.table.past in omega (arith, long, c.requires)

pub returns-clause-kept : goal.returns-clause-kept
returns-clause-kept g c = dropped c.args.self.now.table.first c.drop_oldest.new.self.first c.args.self.now.table.past c.drop_oldest.new.self.past c.drop_oldest.ensures.first c.drop_oldest.ensures.past

pub returns-clause-count : goal.returns-clause-count
returns-clause-count g c =
    let long = length_turned c.args.self.now.table.first c.args.self.now.table.past in
    drops c.args.self.now.table.first c.drop_oldest.new.self.first c.args.self.now.table.past c.drop_oldest.new.self.past (omega (arith, long, c.requires)) c.drop_oldest.ensures.first c.drop_oldest.ensures.past
