use Rattle.std.proofs.Common.{map, take}
use Rattle.dubp_docs.specs.AddsLines.{AddsLines}
use Rattle.dubp_docs.proofs.signing.add_texts.Given as goal

abbrev pub invariant-loop-value : goal.invariant-loop-value
invariant-loop-value g l = AddsLines g.S.TextSink.has l.fn.out l.out (map g.T.AsText.text_of (take l.value-index l.values))
