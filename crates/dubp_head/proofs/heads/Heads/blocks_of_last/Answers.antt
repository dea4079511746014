use Rattle.std.proofs.Common.{◌≡◌, reverse, ap, sym, ◌∙◌}
use Rattle.dubp_chain.specs.Heads.{blocks_of}
use Rattle.dubp_head.specs.Frames.{frame_issuers}
use Rattle.dubp_head.specs.HeadsStates.{HeadsState}
use Rattle.dubp_head.specs.LastBlocks.{last_place}
use Rattle.dubp_head.proofs.KeptHeads.{frame_is, issuers_of}
use Rattle.dubp_head.proofs.heads.Heads.blocks_of_last.Goals as goal

pub returns : goal.returns
returns c k last =
    let list = reverse c.self.inside.heads.items in
    let found : c.args.last ≡ last_place (issuers_of list) k = last ∙ ap (λ (v : HeadsState). last_place (issuers_of v.list) k) (sym c.self.view_is) in
    c.of_last.ensures (issuers_of list) k found c.self.invariant.frame.counted
    ∙ ap (λ l. blocks_of l k) (frame_is list c.self.inside.counts c.self.invariant.frame ∙ ap (λ (v : HeadsState). frame_issuers v.list) c.self.view_is)
