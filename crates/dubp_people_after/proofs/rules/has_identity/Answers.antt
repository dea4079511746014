use Rattle.dubp_people_after.proofs.Every.{has_identity_told}
use Rattle.dubp_people_after.proofs.rules.has_identity.Goals as goal

pub returns : goal.returns
returns g c = λ chain b shown. has_identity_told chain b c.args.line.now _ (c.has_identity.ensures chain b shown)
