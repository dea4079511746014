use Rattle.std.proofs.Common.{length}
use Rattle.dubp_session.proofs.Givens.{AreGiven}
use Rattle.dubp_session.proofs.generating.give_blocks.Given as goal

abbrev pub invariant-loop-block : goal.invariant-loop-block
invariant-loop-block g l = AreGiven l.fn.blocks.items l.blocks.items l.fn.node l.node

abbrev pub decreases-loop-block : goal.decreases-loop-block
decreases-loop-block g l = length l.blocks.items
