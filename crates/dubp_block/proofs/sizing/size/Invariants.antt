use Rattle.std.proofs.Common.{◌≡◌, ◌+◌, length, drop}
use Rattle.dubp_block.specs.Sections.{transaction_lines}
use Rattle.dubp_block.specs.Text.{size_of}
use Rattle.dubp_block.proofs.sizing.size.Given as goal

-- what is counted, and what is still to count
abbrev pub invariant-loop-tx : goal.invariant-loop-tx
invariant-loop-tx l = l.size + length (transaction_lines (drop l.tx-index l.block.transactions)) ≡ size_of l.block
