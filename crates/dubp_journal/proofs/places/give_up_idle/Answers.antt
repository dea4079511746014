use Rattle.dubp_journal.proofs.Giving.{gives_up_none, gives_up_more}
use Rattle.dubp_journal.proofs.places.give_up_idle.Goals as goal

pub loop-done-init : goal.loop-done-init
loop-done-init g c = gives_up_none c.args.uses.now c.args.slots.now c.args.keys.now.items c.requires.finds

pub loop-done-preserved : goal.loop-done-preserved
loop-done-preserved g c = gives_up_more c.loop-done.invariant c.give_up.ensures
