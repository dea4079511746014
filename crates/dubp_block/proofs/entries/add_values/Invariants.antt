use Rattle.std.proofs.Common.{map, take}
use Rattle.dubp_block.specs.AddsLines.{AddsLines}
use Rattle.dubp_block.proofs.entries.add_values.Given as goal

abbrev pub invariant-loop-value : goal.invariant-loop-value
invariant-loop-value g l = AddsLines g.S.TextSink.has l.fn.out l.out (map g.T.PutText.spelling (take l.value-index l.values))
