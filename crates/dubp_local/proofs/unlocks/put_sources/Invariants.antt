use Rattle.std.proofs.Common.{◌≡◌, ◌++◌, map, take}
use Rattle.dubp_local.proofs.unlocks.put_sources.Given as goal

abbrev pub invariant-loop-input : goal.invariant-loop-input
invariant-loop-input l = l.sources.items ≡ l.fn.sources.items ++ map (λ input. input.source) (take l.input-index l.inputs)
