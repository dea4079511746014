use Rattle.std.proofs.Common.{ap, cond, ◌∙◌, true}
use Rattle.std.specs.HashSet.{contains}
use Rattle.dubp_atoms.specs.Same.{same_stamp}
use Rattle.dubp_resolve.proofs.Stamps.{or_cond, stamps}
use Rattle.dubp_resolve.proofs.gathering.insert.Goals as goal

pub returns-in-Ok : goal.returns-in-Ok
returns-in-Ok c = λ s.
    c.in-Ok.ensures.updates.0 s ∙ ap (λ r. cond r true (contains same_stamp c.args.found.now s)) (stamps.symm c.args.stamp s)
    ∙ or_cond (same_stamp s c.args.stamp) (contains same_stamp c.args.found.now s)
