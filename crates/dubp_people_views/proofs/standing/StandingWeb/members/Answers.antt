use Rattle.std.proofs.Common.{◌∙◌, sym}
use Rattle.dubp_people_views.proofs.standing.StandingWeb.members.Goals as goal

pub returns : goal.returns
returns c = λ keys pairs shown. c.in_ok-keys.ensures shown.0 shown.1.0 shown.1.1.0 ∙ sym shown.1.1.1.0
