use Rattle.std.proofs.Common.{reverse, map, ap, ◌∙◌}
use Rattle.std.specs.Set.{unique_keys}
use Rattle.dubp_atoms.specs.Same.{same_text}
use Rattle.dubp_chain.specs.Heads.{blocks_of, doubled_median as doubled}
use Rattle.dubp_head.specs.Frames.{frame_issuers}
use Rattle.dubp_head.specs.HeadsStates.{HeadsState}
use Rattle.dubp_head.proofs.KeptHeads.{frame_is, issuers_of}
use Rattle.dubp_head.proofs.heads.Heads.doubled_median.Goals as goal

pub returns : goal.returns
returns c =
    let list = reverse c.self.inside.heads.items in
    c.doubled_median.ensures (issuers_of list) c.self.invariant.frame.counted
    ∙ ap (λ l. doubled (map (blocks_of l) (unique_keys same_text l))) (frame_is list c.self.inside.counts c.self.invariant.frame ∙ ap (λ (v : HeadsState). frame_issuers v.list) c.self.view_is)
