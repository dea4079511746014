use Rattle.dubp_choosing.specs.States.{choosing}
use Rattle.dubp_choosing.proofs.Resolving.{IsResolving}
use Rattle.dubp_replay.specs.Turns.{choices_of}
use Rattle.dubp_resolve.proofs.Ending.{candidates}
use Rattle.dubp_turns.proofs.choosing.try_all.Given as goal

abbrev pub invariant-choices : goal.invariant-choices
invariant-choices g l = IsResolving l.fn.lines.items l.fn.branches l.fn.failures.items l.branches l.failures.items l.lines.items

abbrev pub decreases-choices : goal.decreases-choices
decreases-choices g l = candidates (choices_of (choosing l.branches l.failures.items))
