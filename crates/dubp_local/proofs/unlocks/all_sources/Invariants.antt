use Rattle.std.proofs.Common.{◌≡◌, map, take}
use Rattle.std.specs.List.{flat_map}
use Rattle.dubp_local.proofs.unlocks.all_sources.Given as goal

abbrev pub invariant-loop-tx : goal.invariant-loop-tx
invariant-loop-tx l = l.sources.items ≡ map (λ input. input.source) (flat_map (λ tx. tx.inputs) (take l.tx-index l.transactions))
