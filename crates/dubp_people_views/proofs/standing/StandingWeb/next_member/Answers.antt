use Rattle.dubp_registry.proofs.OfLeft.{next_member_told}
use Rattle.dubp_people_views.proofs.standing.StandingWeb.next_member.Goals as goal

pub returns : goal.returns
returns c = λ keys pairs shown.
    next_member_told shown.0 keys shown.1.1.1.0 c.args.after c.next_member.result (c.next_member.ensures shown.0 shown.1.0 shown.1.1.0)
