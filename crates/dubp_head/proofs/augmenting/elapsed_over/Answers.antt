use Rattle.std.proofs.Common.{ap, sym, ◌∙◌, ◌-◌}
use Rattle.dubp_head.proofs.NextHeads.{index_missed}
use Rattle.dubp_head.proofs.augmenting.elapsed_over.Goals as goal

pub returns-in-None : goal.returns-in-None
returns-in-None c =
    c.saturating_sub-in-None.ensures ∙ ap (λ h. c.args.time - h.median_time) (sym (index_missed c.args.heads.now.list (c.args.range - 1) c.args.before.now c.in-None.ensures))
