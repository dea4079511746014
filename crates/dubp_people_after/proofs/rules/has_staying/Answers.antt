use Rattle.dubp_people_after.proofs.Every.{has_staying_told}
use Rattle.dubp_people_after.proofs.rules.has_staying.Goals as goal

pub returns : goal.returns
returns g c = λ chain b shown. has_staying_told chain b c.args.line.now _ (c.is_leaving.ensures chain b shown)
