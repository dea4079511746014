use Rattle.std.proofs.Common.{rules, ◌≡◌, ◌∙◌, None, Some, sym, refl}
use Rattle.dubp_journal.proofs.Placing.{widens, grows_not, grows_new}
use Rattle.dubp_journal.proofs.Results.{on_err_any}
use Rattle.dubp_journal.proofs.places.place.Goals as goal

pub returns-in-Some-clause-grown : goal.returns-in-Some-clause-grown
returns-in-Some-clause-grown g c =
    grows_not c.in-Err.ensures.pushed c.requires.finds c.requires.keys_each c.requires.uses_each _ c.args.k c.in-Some.slot (λ q. refl) (sym c.slot.ensures ∙ c.in-Some.is)

pub returns-in-None-clause-refused : goal.returns-in-None-clause-refused
returns-in-None-clause-refused g c =
    widens c.in-Err.ensures.pushed c.requires.finds c.requires.keys_each c.requires.uses_each _ (λ x. ⊥) (λ q. refl)

pub returns-in_err-slot-clause-refused : goal.returns-in_err-slot-clause-refused
returns-in_err-slot-clause-refused g c =
    on_err_any c.from_residual.result (widens c.in-Ok.ensures.pushed c.requires.finds c.requires.keys_each c.requires.uses_each _ (λ x. ⊥) c.in_err-slot.ensures.refused)

pub returns-in-Some-2-clause-grown : goal.returns-in-Some-2-clause-grown
returns-in-Some-2-clause-grown g c =
    let has : g.F.Finder.slot_of c.args.finder.now c.args.k ≡ Some c.in-Some-2.slot = search rules in
    let stays = c.place.ensures.stays (rw has refl) in
    grows_not c.in-Ok.ensures.pushed c.requires.finds c.requires.keys_each c.requires.uses_each _ c.args.k c.in-Some-2.slot stays has

pub returns-clause-grown : goal.returns-clause-grown
returns-clause-grown g c =
    let none : c.in_ok-slot.field-0 ≡ None = search rules in
    let absent : g.F.Finder.slot_of c.args.finder.now c.args.k ≡ None = search rules in
    grows_new c.in-Ok.ensures.pushed c.requires.finds c.requires.keys_each c.requires.uses_each (g.F.Finder.slot_of c.place.new.self) g.met.F.Finder.total c.args.k c.in-Ok.next absent c.in-Ok.ensures.within c.in-Ok.ensures.free (c.in_ok-slot.ensures.placed absent)
