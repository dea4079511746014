use Rattle.std.proofs.Common.{◌∙◌, subst, sym}
use Rattle.std.specs.BTreeMap.Range.{IsFromStart}
use Rattle.dubp_journal.specs.MovingTable.{get}
use Rattle.dubp_journal.specs.Walking.{IsLeft}
use Rattle.dubp_journal.proofs.Walks.{goes_on, step_none, step_some}
use Rattle.dubp_journal.proofs.walk.next_held.Goals as goal

pub loop-k-preserved : goal.loop-k-preserved
loop-k-preserved g c = record {
  can_next = tt;
  is_finite = tt;
  is_left = λ w is.
      goes_on g.met.K.Ord.total (IsFromStart g.K.Ord.cmp w.from) (get g.K.Ord.cmp w.map) c.args.values.now (c.in-Some.k.now, c.in-Some.slot.now) c.next.new.self
      (subst (IsLeft g.K.Ord.cmp w c.args.values.now) c.in-Some.ensures.steps (c.loop-k.invariant.is_left w is)) (sym c.held.ensures ∙ c.in_default-held.is);
}

pub returns-in-Some-held : goal.returns-in-Some-held
returns-in-Some-held g c = λ w is.
    step_some g.met.K.Ord.total w c.args.values.now (c.in-Some.k.now, c.in-Some.slot.now) c.next.new.self
    (subst (IsLeft g.K.Ord.cmp w c.args.values.now) c.in-Some.ensures.steps (c.loop-k.invariant.is_left w is)) c.in-Some-held.v (sym c.held.ensures ∙ c.in-Some-held.is)

pub returns : goal.returns
returns g c = λ w is. step_none g.met.K.Ord.total w c.args.values.now c.loop-k.left c.next.new.self c.in_default.ensures.steps.0 c.in_default.ensures.steps.1 (c.loop-k.invariant.is_left w is)
