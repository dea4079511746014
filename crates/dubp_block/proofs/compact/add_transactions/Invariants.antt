use Rattle.std.proofs.Common.{take}
use Rattle.dubp_block.specs.AddsLines.{AddsLines}
use Rattle.dubp_block.specs.Sections.{transaction_lines}
use Rattle.dubp_block.proofs.compact.add_transactions.Given as goal

abbrev pub invariant-loop-tx : goal.invariant-loop-tx
invariant-loop-tx g l = AddsLines g.S.TextSink.has l.fn.out l.out (transaction_lines (take l.tx-index l.transactions))
