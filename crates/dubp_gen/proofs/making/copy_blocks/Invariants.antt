use Rattle.std.proofs.Common.{◌≡◌, reverse, take}
use Rattle.dubp_gen.proofs.making.copy_blocks.Given as goal

abbrev pub invariant-loop-number : goal.invariant-loop-number
invariant-loop-number g l = l.blocks.items ≡ take l.number (reverse l.ledger.chain)
