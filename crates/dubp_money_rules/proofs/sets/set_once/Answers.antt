use Rattle.dubp_money_rules.proofs.Repeats.{seen_one_more, seen_twice}
use Rattle.dubp_money_rules.proofs.sets.set_once.Goals as goal

pub returns-then-not-branch : goal.returns-then-not-branch
returns-then-not-branch g c =
    seen_twice g.T.PartialEq.eq g.met.T.Eq.laws _ _ _ _ _ c.loop-value-test.true c.value-item.is c.loop-value.invariant c.in_ok-insert.ensures.is_new c.if-not-branch.true

pub loop-value-preserved : goal.loop-value-preserved
loop-value-preserved g c =
    seen_one_more g.T.PartialEq.eq g.met.T.Eq.laws _ _ _ _ _ _ c.loop-value-test.true c.value-item.is c.loop-value.invariant c.in_ok-insert.ensures.is_new c.if-not-branch.false c.in_ok-insert.ensures.keys
