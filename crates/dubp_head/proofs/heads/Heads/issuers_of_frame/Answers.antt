use Rattle.std.proofs.Common.{reverse, ap, ◌∙◌}
use Rattle.std.specs.Set.{distinct_count}
use Rattle.dubp_atoms.specs.Same.{same_text}
use Rattle.dubp_head.specs.Frames.{frame_issuers}
use Rattle.dubp_head.specs.HeadsStates.{HeadsState}
use Rattle.dubp_head.proofs.KeptHeads.{frame_is, issuers_of}
use Rattle.dubp_head.proofs.heads.Heads.issuers_of_frame.Goals as goal

pub returns : goal.returns
returns c =
    let list = reverse c.self.inside.heads.items in
    c.issuers.ensures (issuers_of list) c.self.invariant.frame.counted
    ∙ ap (distinct_count same_text) (frame_is list c.self.inside.counts c.self.invariant.frame)
    ∙ ap (λ (v : HeadsState). distinct_count same_text (frame_issuers v.list)) c.self.view_is
