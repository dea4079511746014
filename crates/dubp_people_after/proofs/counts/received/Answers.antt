use Rattle.std.proofs.Common.{◌∙◌}
use Rattle.dubp_people_after.proofs.Counting.{issuers_counted}
use Rattle.dubp_people_after.proofs.counts.received.Goals as goal

pub returns : goal.returns
returns g c = λ chain b shown.
    c.count_issuers.ensures.count chain b shown
    ∙ issuers_counted chain b c.args.key c.in_ok-near.near.keys c.count_issuers.ensures.once (c.in_ok-near.ensures.issuers chain b shown)
