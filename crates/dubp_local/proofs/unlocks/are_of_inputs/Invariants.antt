use Rattle.std.proofs.Common.{◌<◌}
use Rattle.dubp_local.proofs.Checking.{Rests}
use Rattle.dubp_local.proofs.unlocks.are_of_inputs.Given as goal

abbrev pub invariant-loop-line : goal.invariant-loop-line
invariant-loop-line l = Rests (λ line. line.input < l.inputs) l.unlocks l.line-index
