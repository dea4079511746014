use Rattle.dubp_forks.specs.Entries.{blocks_in}
use Rattle.dubp_forks.proofs.Paths.{IsOnPath, left_from}
use Rattle.dubp_forks.proofs.path.path_from.Given as goal

abbrev pub invariant-loop-next : goal.invariant-loop-next
invariant-loop-next l = IsOnPath (blocks_in l.blocks.entries) l.fn.stamp l.stamps.items l.next

abbrev pub decreases-loop-next : goal.decreases-loop-next
decreases-loop-next l = left_from l.next
