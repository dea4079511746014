use Rattle.std.proofs.Common.{◌∙◌, ap, sym}
use Rattle.std.specs.BTreeMap.Range.{IsFromStart}
use Rattle.dubp_journal.specs.MovingTable.{MovingTable, get}
use Rattle.dubp_journal.specs.Slots.{held}
use Rattle.dubp_journal.proofs.Live.{get-live}
use Rattle.dubp_journal.proofs.Walks.{rest_of, set_out}
use Rattle.dubp_journal.proofs.table.UndoTable+K+V.walk_from.Goals as goal

pub over-requires : goal.over-requires
over-requires g c =
    let t = c.self.inside in
    let m = t.finder.slots.entries in
    rw (c.values.ensures, c.range_from-left.ensures.between)
    (rest_of g.met.K.Ord.total (IsFromStart g.K.Ord.cmp c.args.from) (λ q. held t.slots (get g.K.Ord.cmp m q)) t.slots (get g.K.Ord.cmp c.of-table.result.value.now)
    (λ q. ap (λ (v : MovingTable g.row.K.Denot g.row.V.Denot). get g.K.Ord.cmp v.now q) (c.of-table.ensures ∙ sym c.self.view_is) ∙ get-live c.self.invariant.finds q t.slots) _
    (set_out g.met.K.Ord.total m t.slots c.args.from c.range_from-left.ensures.ordered))
