use Rattle.std.proofs.Common.{refl}
use Rattle.dubp_drafts.proofs.Pairs.{with_one_more, with_none_more}
use Rattle.dubp_drafts.proofs.people.put_by_all_others.Goals as goal
use Rattle.dubp_drafts.proofs.people.put_by_all_others.Goals.{then-person-other+in_ok-push, else-person-other}

pub loop-other-preserved : goal.loop-other-preserved
loop-other-preserved c =
    elim c.if-person-other.branch [
      | then-person-other+in_ok-push w ↦
          rw w.pairs-is (with_one_more c.args.person _ _ c.loop-other.other-index c.args.pairs.now.items c.loop-other.pairs.items w.push.new.list.items c.loop-other-test.true refl w.if-person-other.true c.loop-other.invariant w.in_ok-push.ensures)
      | else-person-other w ↦
          rw w.pairs-is (with_none_more c.args.person _ _ c.loop-other.other-index c.args.pairs.now.items c.loop-other.pairs.items c.loop-other-test.true refl w.if-person-other.false c.loop-other.invariant)
    ]
