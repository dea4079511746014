use Rattle.std.proofs.Common.{◌∙◌}
use Rattle.dubp_verdict.specs.Verdicts.{verdict_of}
use Rattle.dubp_verdict.proofs.Sets.{found_before}
use Rattle.dubp_verdict.proofs.verdicts.Verdicts.add.Goals as goal

pub returns-clause-repeat : goal.returns-clause-repeat
returns-clause-repeat c stands =
    let there = c.insert.ensures.there (found_before (verdict_of c.args.key c.args.hash c.args.sig) c.args.self.now c.self.inside.order.value c.self.inside.entries.keys c.self.view_is c.self.invariant stands) in
    (there.0, there.2 ∙ c.self.view_is)
