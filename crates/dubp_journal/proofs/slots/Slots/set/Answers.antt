use Rattle.std.proofs.Common.{◌∙◌, None, get_or, set, ap, subst, sym}
use Rattle.std.proofs.lemmas.List.{set-set, set-get_or}
use Rattle.dubp_journal.proofs.slots.Slots.set.Goals as goal

pub change-requires-clause-was : goal.change-requires-clause-was
change-requires-clause-was g c =
    let t = c.self.inside in
    let i = c.args.slot in
    let was = get_or t.values.items i None in
    let is = ap (λ l. set l i was) c.deref.ensures.value ∙ set-set t.values.items i c.args.v was ∙ set-get_or t.values.items i None in
    (was, subst (λ l. g.S.Summary.sums t.summary l) (sym is) c.self.invariant)
