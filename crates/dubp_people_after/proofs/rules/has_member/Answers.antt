use Rattle.dubp_people_after.proofs.Every.{has_member_told}
use Rattle.dubp_people_after.proofs.rules.has_member.Goals as goal

pub returns : goal.returns
returns g c = λ chain b shown. has_member_told chain b c.args.line.now _ (c.is_member.ensures chain b shown)
