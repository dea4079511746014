use Rattle.std.proofs.Common.{None}
use Rattle.dubp_registry.proofs.OfLeft.{issuers_told}
use Rattle.dubp_people_views.proofs.standing.StandingWeb.issuers.Goals as goal

pub returns : goal.returns
returns c = λ keys pairs shown.
    issuers_told shown.0 pairs shown.1.1.1.1 c.args.to None c.in_ok-keys.keys.items (c.in_ok-keys.ensures shown.0 shown.1.0)
