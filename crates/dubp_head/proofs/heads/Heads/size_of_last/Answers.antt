use Rattle.std.proofs.Common.{reverse, take, ap, ◌∙◌}
use Rattle.dubp_head.specs.HeadsStates.{HeadsState}
use Rattle.dubp_head.specs.Totals.{total_of}
use Rattle.dubp_head.proofs.heads.Heads.size_of_last.Goals as goal

pub returns : goal.returns
returns c =
    c.of_last.ensures (reverse c.self.inside.heads.items) c.self.invariant.sizes ∙ ap (λ (v : HeadsState). total_of (take c.args.count v.list)) c.self.view_is
