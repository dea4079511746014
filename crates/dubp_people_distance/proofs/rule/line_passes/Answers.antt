use Rattle.dubp_people_distance.proofs.Passing.{passes_told}
use Rattle.dubp_people_distance.proofs.rule.line_passes.Goals as goal

pub returns-clause-passes : goal.returns-clause-passes
returns-clause-passes g c = λ d shown is among.
    passes_told d c.args.line.now c.args.params.now c.args.sought.now.keys _ _ c.is_near.result is among (c.in_ok-reached.ensures.reached _ _ shown) c.in_ok-reached.ensures.count c.is_near.ensures
