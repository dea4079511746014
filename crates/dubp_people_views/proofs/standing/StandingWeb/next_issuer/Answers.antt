use Rattle.dubp_registry.proofs.OfLeft.{next_issuer_told}
use Rattle.dubp_people_views.proofs.standing.StandingWeb.next_issuer.Goals as goal

pub returns : goal.returns
returns c = λ keys pairs shown.
    next_issuer_told shown.0 pairs shown.1.1.1.1 c.args.to c.args.after c.next_issuer.result (c.next_issuer.ensures shown.0 shown.1.0)
