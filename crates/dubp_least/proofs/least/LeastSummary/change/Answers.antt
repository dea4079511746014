use Rattle.dubp_least.proofs.Playing.{change_others}
use Rattle.dubp_least.proofs.least.LeastSummary.change.Goals as goal

pub play_above-requires-clause-others : goal.play_above-requires-clause-others
play_above-requires-clause-others g c =
    rw c.deref_mut.ensures.value (change_others g.M.Measure.measure c.args.values.now c.args.self.now.winners.items c.args.slot c.requires.was.0 c.requires.was.1)
