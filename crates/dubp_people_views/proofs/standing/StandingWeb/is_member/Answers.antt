use Rattle.dubp_registry.proofs.OfLeft.{member_told}
use Rattle.dubp_people_views.proofs.standing.StandingWeb.is_member.Goals as goal

pub returns : goal.returns
returns c = λ keys pairs shown.
    let k = c.args.key.now in
    member_told shown.0 keys shown.1.1.1.0 k c.is_member.result (c.is_member.ensures shown.0 shown.1.0 shown.1.1.0)
