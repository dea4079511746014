use Rattle.dubp_verdict.proofs.Sets.{found}
use Rattle.dubp_verdict.proofs.verdicts.Verdicts.has_hash.Goals as goal

pub returns : goal.returns
returns c = found _ c.args.self.now c.self.inside.order.value c.self.inside.entries.keys _ c.self.view_is c.self.invariant c.contains.ensures
