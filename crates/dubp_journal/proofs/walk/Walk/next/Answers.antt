use Rattle.std.proofs.Common.{subst, sym}
use Rattle.std.specs.declared.ops.Bound.{Bound}
use Rattle.std.specs.BTreeMap.Range.{IsFromStart}
use Rattle.dubp_journal.specs.MovingTable.{HasNone}
use Rattle.dubp_journal.specs.Walking.{Walking, IsLeft, IsStep}
use Rattle.dubp_journal.proofs.walk.Walk.next.Goals as goal

pub invariant_of-self : goal.invariant_of-self
invariant_of-self g c =
    let t = c.self.inside in
    let w : Walking g.row.K.Denot g.row.V.Denot = record { map = t.table.value.now; from = t.from.value } in
    (subst (IsStep g.K.Ord.cmp w t.values.now c.next_held.new.left) c.in_err-k.was (c.next_held.ensures w c.self.invariant)).1

pub returns-in_err-k-clause-none : goal.returns-in_err-k-clause-none
returns-in_err-k-clause-none g c =
    let t = c.self.inside in
    let w : Walking g.row.K.Denot g.row.V.Denot = record { map = t.table.value.now; from = t.from.value } in
    rw c.from_residual.ensures
    (subst (λ (v : Walking g.row.K.Denot g.row.V.Denot). HasNone g.K.Ord.cmp v.map (IsFromStart g.K.Ord.cmp v.from)) c.self.view_is
    (subst (IsStep g.K.Ord.cmp w t.values.now c.next_held.new.left) c.in_err-k.was (c.next_held.ensures w c.self.invariant)).0)

pub invariant_of-self-2 : goal.invariant_of-self-2
invariant_of-self-2 g c =
    let t = c.self.inside in
    let w : Walking g.row.K.Denot g.row.V.Denot = record { map = t.table.value.now; from = t.from.value } in
    subst (λ (from : Bound g.row.K.Denot). IsLeft g.K.Ord.cmp (record { map = t.table.value.now; from = from }) t.values.now c.next_held.new.left) (sym c.of.ensures)
    (subst (IsStep g.K.Ord.cmp w t.values.now c.next_held.new.left) c.in_ok-k.was (c.next_held.ensures w c.self.invariant)).1
