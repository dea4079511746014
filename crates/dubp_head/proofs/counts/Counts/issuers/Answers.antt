use Rattle.std.proofs.Common.{length, ap, ◌∙◌}
use Rattle.dubp_head.specs.Counts.{CountsState}
use Rattle.dubp_head.proofs.Counting.{issuers_counted}
use Rattle.dubp_head.proofs.counts.Counts.issuers.Goals as goal

pub returns : goal.returns
returns c issuers counted =
    c.len.ensures ∙ c.self.inside.ranked.ok.0 ∙ ap (λ (s : CountsState). length s.ranked) c.self.view_is ∙ issuers_counted _ issuers counted
