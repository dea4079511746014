use Rattle.std.proofs.Common.{◌∙◌}
use Rattle.dubp_people_after.proofs.Counting.{receivers_counted}
use Rattle.dubp_people_after.proofs.counts.stock.Goals as goal

pub returns : goal.returns
returns g c = λ chain b shown.
    c.count_receivers.ensures.count chain b shown
    ∙ receivers_counted chain b c.args.key c.in_ok-near.near.keys c.count_receivers.ensures.once (c.in_ok-near.ensures.receivers chain b shown)
