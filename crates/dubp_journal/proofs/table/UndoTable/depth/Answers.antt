use Rattle.std.proofs.Common.{ap, subst, length, arith}
use Rattle.dubp_journal.specs.MovingTable.{MovingTable, IsAllPlaced}
use Rattle.dubp_journal.proofs.Covering.{all_placed}
use Rattle.dubp_journal.proofs.Journals.{length-states}
use Rattle.dubp_journal.proofs.table.UndoTable.depth.Goals as goal

pub returns-clause-depth : goal.returns-clause-depth
returns-clause-depth g c =
    let t = c.self.inside in
    omega (arith, c.len.ensures, t.marks.ok.0, length-states t.keys.items t.slots t.journal.items t.marks.items, ap (λ v. length v.past) c.self.view_is)

pub returns-clause-placed : goal.returns-clause-placed
returns-clause-placed g c =
    let t = c.self.inside in
    subst (λ (v : MovingTable g.row.K.Denot g.row.V.Denot). IsAllPlaced g.F.Finder.cmp v) c.self.view_is (all_placed _ _ c.self.invariant)
