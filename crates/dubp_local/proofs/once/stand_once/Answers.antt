use Rattle.std.proofs.Common.{sym}
use Rattle.dubp_local.proofs.Repeats.{seen_one_more, seen_twice}
use Rattle.dubp_local.proofs.once.stand_once.Goals as goal

pub returns-then-not-branch : goal.returns-then-not-branch
returns-then-not-branch g c =
    sym (seen_twice g.T.PartialEq.eq g.met.T.Eq.laws _ _ _ _ _ c.loop-value-test.true c.value-item.is c.loop-value.invariant c.in_ok-insert.ensures.is_new c.if-not-branch.true)

pub loop-value-preserved : goal.loop-value-preserved
loop-value-preserved g c =
    seen_one_more g.T.PartialEq.eq g.met.T.Eq.laws _ _ _ _ _ _ c.loop-value-test.true c.value-item.is c.loop-value.invariant c.in_ok-insert.ensures.is_new c.if-not-branch.false c.in_ok-insert.ensures.has
