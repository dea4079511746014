use Rattle.std.proofs.Common.{ap, ◌∙◌, cond, Some}
use Rattle.std.specs.HashMap.{get}
use Rattle.dubp_atoms.specs.Same.{same_stamp}
use Rattle.dubp_resolve.proofs.Stamps.{stamps}
use Rattle.dubp_resolve.proofs.standing.note.Goals as goal

pub returns-in-Ok : goal.returns-in-Ok
returns-in-Ok c = λ s.
    c.in-Ok.ensures.updates.0 s ∙ ap (λ r. cond r (Some c.args.height) (get same_stamp c.args.heights.now s)) (stamps.symm c.args.stamp s)
