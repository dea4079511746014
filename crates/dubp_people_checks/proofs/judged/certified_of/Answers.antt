use Rattle.std.proofs.Common.{◌∙◌, ◌∷◌}
use Rattle.dubp_people_after.proofs.OfSteps.{received_is_count}
use Rattle.dubp_people_checks.proofs.judged.certified_of.Goals as goal

pub returns : goal.returns
returns g c = λ chain b shown. record {
  issuers = λ a. c.in_ok-issuers.ensures a ∙ c.in_ok-found.ensures chain b shown a;
  stock = c.in_ok-stock.ensures chain b shown;
  received = c.len-received.ensures.len ∙ received_is_count (b ∷ chain) c.args.key c.in_ok-found.found.keys c.len-received.ensures.unique (λ a. c.in_ok-found.ensures chain b shown a);
}
