use Rattle.std.proofs.Common.{◌≡◌, map, take}
use Rattle.dubp_replay.specs.Turns.{offered}
use Rattle.dubp_turns.proofs.seeing.offers_of.Given as goal

abbrev pub invariant-loop-place : goal.invariant-loop-place
invariant-loop-place g l = l.offers.items ≡ map offered (take l.place l.branches.store)
