use Rattle.std.proofs.Common.{◌≤◌, ◌+◌, ◌-◌, List, drop, length}
use Rattle.dubp_block.specs.declared.block.Block.{Block}
use Rattle.dubp_ledger.specs.OfKept.{steps_of_last}
use Rattle.dubp_forks.specs.Entries.{blocks_in}
use Rattle.dubp_forks.specs.Switching.{IsLaid, IsOnward}
use Rattle.dubp_forks.proofs.switching.accept_all.Given as goal

abbrev pub invariant-loop-left : goal.invariant-loop-left
invariant-loop-left g l = record {
  within : l.left ≤ length l.stamps;
  steps : l.steps ≤ l.fn.steps + steps_of_last (length l.stamps - l.left) l.ledger.chain;
  on : (path : List Block) → IsLaid (blocks_in l.blocks.entries) l.stamps path → IsOnward l.verdicts l.fn.ledger (drop l.left path) l.ledger;
}

abbrev pub decreases-loop-left : goal.decreases-loop-left
decreases-loop-left g l = l.left
