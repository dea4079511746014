use Rattle.std.proofs.Common.{IsTrue, not}
use Rattle.dubp_atoms.specs.Same.{same_text}
use Rattle.dubp_local.proofs.Checking.{Rests}
use Rattle.dubp_local.proofs.once.nobody_certifies_themselves.Given as goal

abbrev pub invariant-loop-line : goal.invariant-loop-line
invariant-loop-line l = Rests (λ line. IsTrue (not (same_text line.from line.to))) l.lines l.line-index
