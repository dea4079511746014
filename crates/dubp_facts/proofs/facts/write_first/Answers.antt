use Rattle.std.proofs.Common.{sym}
use Rattle.dubp_facts.proofs.facts.write_first.Goals as goal

pub returns-in_ok-set-in-Some-clause-now : goal.returns-in_ok-set-in-Some-clause-now
returns-in_ok-set-in-Some-clause-now g c = λ k. rw (c.in-Some.is, sym c.get.ensures) (c.in_ok-set-in-Some.ensures.now k)
