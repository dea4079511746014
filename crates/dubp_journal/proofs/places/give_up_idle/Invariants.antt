use Rattle.dubp_journal.specs.Slots.{GivesUp}
use Rattle.dubp_journal.proofs.places.give_up_idle.Given as goal

abbrev pub invariant-loop-done : goal.invariant-loop-done
invariant-loop-done g l = GivesUp g.F.Finder.cmp l.uses l.slots l.fn.keys.items (g.F.Finder.slot_of l.fn.finder) l.keys.items (g.F.Finder.slot_of l.finder)
