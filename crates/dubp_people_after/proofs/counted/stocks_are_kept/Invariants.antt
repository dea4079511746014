use Rattle.dubp_chain.specs.Chains.{Chain}
use Rattle.dubp_people_after.specs.Lines.{KeepsStock}
use Rattle.dubp_lists.proofs.Rests.{Rests}
use Rattle.dubp_people_after.proofs.counted.stocks_are_kept.Given as goal

abbrev pub invariant-loop-line : goal.invariant-loop-line
invariant-loop-line g l = (c : Chain) → g.A.WithBlock.after l.after c l.block → Rests (KeepsStock c l.block) l.lines l.line-index
