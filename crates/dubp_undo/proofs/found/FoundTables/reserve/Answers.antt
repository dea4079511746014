use Rattle.std.proofs.Common.{arith}
use Rattle.dubp_undo.proofs.Turned.{length_turned}
use Rattle.dubp_undo.proofs.found.FoundTables.reserve.Goals as goal

pub reserve-requires : goal.reserve-requires
reserve-requires g c = let long = length_turned c.args.self.now.table.first c.args.self.now.table.past in omega (arith, long, c.requires)
