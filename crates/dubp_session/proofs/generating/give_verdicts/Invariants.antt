use Rattle.std.proofs.Common.{map, take}
use Rattle.dubp_turns.specs.Given.{IsGivenAll, verdict_given}
use Rattle.dubp_session.proofs.generating.give_verdicts.Given as goal

abbrev pub invariant-loop-verdict : goal.invariant-loop-verdict
invariant-loop-verdict g l = IsGivenAll (map verdict_given (take l.verdict-index l.verdicts)) l.fn.node l.node
