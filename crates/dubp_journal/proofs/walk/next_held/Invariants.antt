use Rattle.dubp_journal.specs.Walking.{Walking, IsLeft}
use Rattle.dubp_journal.proofs.walk.next_held.Given as goal

abbrev pub invariant-loop-k : goal.invariant-loop-k
invariant-loop-k g l = record {
  can_next : (goal.iterator-loop-k g).can_next l.left;
  is_finite : (goal.iterator-loop-k g).is_finite l.left;
  is_left : (w : Walking g.row.K.Denot g.row.V.Denot) → IsLeft g.K.Ord.cmp w l.values l.initial.left → IsLeft g.K.Ord.cmp w l.values l.left;
}
