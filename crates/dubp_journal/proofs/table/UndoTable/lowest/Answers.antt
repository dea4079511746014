use Rattle.std.proofs.Common.{◌≡◌, ◌<◌, ◌∙◌, get_or, length, Some, None, sym, subst, arith}
use Rattle.std.proofs.lemmas.List.{get_or_default}
use Rattle.dubp_journal.specs.Least.{IsLeast}
use Rattle.dubp_journal.specs.MovingTable.{MovingTable, IsLowest}
use Rattle.dubp_journal.proofs.Lowest.{some_within, none_lowest, lowest_is}
use Rattle.dubp_journal.proofs.table.UndoTable.lowest.Goals as goal

pub returns-in_err-slot-clause-none : goal.returns-in_err-slot-clause-none
returns-in_err-slot-clause-none g c =
    let t = c.self.inside in
    rw (c.from_residual.ensures, ← c.self.view_is) (λ q any. none_lowest c.self.invariant.finds t.slots (λ j. rw (← c.values.ensures) (c.in_err-slot.ensures.none j)) q)

pub returns-clause-found : goal.returns-clause-found
returns-clause-found g c =
    let t = c.self.inside in
    let i = c.in_ok-slot.slot in
    let least : IsLeast g.S.TellsLeast.measure t.slots i = rw (← c.values.ensures) c.in_ok-slot.ensures.found in
    let has : get_or t.slots i None ≡ Some c.in_ok-v.v = sym c.get.ensures ∙ c.in_ok-v.was in
    let below : i < length t.keys.items = omega (arith, some_within t.slots i c.in_ok-v.v has, c.self.invariant.places.keys_each) in
    let key : get_or t.keys.items i None ≡ Some c.in_ok-k.k = sym (get_or_default t.keys.items i c.index.result.now None below) ∙ sym c.index.ensures ∙ c.in_ok-k.was in
    subst (λ (v : MovingTable g.row.K.Denot g.row.V.Denot). IsLowest g.F.Finder.cmp g.S.TellsLeast.measure v.now (c.in_ok-k.k, c.in_ok-v.v)) c.self.view_is (lowest_is c.self.invariant.finds t.slots g.S.TellsLeast.measure i c.in_ok-k.k c.in_ok-v.v key has least)
