use Rattle.std.proofs.Common.{sym, subst}
use Rattle.dubp_entries.specs.Reading.{Takes}
use Rattle.dubp_entries.proofs.reading.take_one.Goals as goal

pub returns-in-Start : goal.returns-in-Start
returns-in-Start c = subst (λ p. Takes p c.args.hand.now c.take_first.result) (sym c.in-Start.is) c.take_first.ensures
